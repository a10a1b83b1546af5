use Rattle.pac_seq.proofs.Fronts.{get_first}
use Rattle.pac_seq.proofs.places.item_at.Goals as goal

pub returns-in-Between : goal.returns-in-Between
returns-in-Between g c = get_first c.args.tree.now.items c.args.place c.in-Between.item.now _ c.in-Between.ensures.ahead.begins
