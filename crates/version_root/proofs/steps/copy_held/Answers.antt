use Rattle.std.proofs.Common.{Some}
use Rattle.versions.specs.History.{history}
use Rattle.version_root.proofs.Turns.{front_is}
use Rattle.version_root.proofs.steps.copy_held.Goals as goal

pub exchange-held-requires : goal.exchange-held-requires
exchange-held-requires g c = let q = c.requires in (q.table_is, (Some (history c.args.stripes.now.key.base.value c.args.seat.now.me.0.seen), front_is c.args.seat.now.me.1 _ q.carried_is))
