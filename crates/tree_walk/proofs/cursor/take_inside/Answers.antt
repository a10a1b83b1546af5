use Rattle.tree_walk.proofs.Dropped.{takes_read}
use Rattle.tree_walk.proofs.cursor.take_inside.Goals as goal

pub returns-clause-entry : goal.returns-clause-entry
returns-clause-entry g c =
    takes_read (g.L.Leaf.entries c.args.place.now.leaf.now) c.args.place.now.at c.read_entry-entry.result c.requires.within c.read_entry-entry.ensures.entry
