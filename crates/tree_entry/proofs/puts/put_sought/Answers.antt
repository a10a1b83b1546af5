use Rattle.std.proofs.Common.{arith}
use Rattle.map_model.proofs.Splits.{IsIncreasing-set}
use Rattle.map_model.proofs.Cuts.{set_sizes}
use Rattle.tree_entry.proofs.puts.put_sought.Goals as goal

pub from_leaf-requires-clause-increasing : goal.from_leaf-requires-clause-increasing
from_leaf-requires-clause-increasing g c =
    rw c.in_ok-leaf.ensures (IsIncreasing-set g.met.M.Key.Ord.total (g.M.Leaf.Leaf.entries c.args.leaf.now) c.args.key c.args.val c.requires.increasing)

pub from_leaf-requires-clause-small : goal.from_leaf-requires-clause-small
from_leaf-requires-clause-small g c =
    let more = (set_sizes g.met.M.Key.Ord.total g.met.M.Key.Key.exact (g.M.Leaf.Leaf.entries c.args.leaf.now) c.args.key c.requires.increasing c.args.val).1 in
    rw c.in_ok-leaf.ensures (omega (arith, more, c.requires.short, g.M.Shape.lawful.0))

pub returns-clause-cost : goal.returns-clause-cost
returns-clause-cost g c =
    let more = (set_sizes g.met.M.Key.Ord.total g.met.M.Key.Key.exact (g.M.Leaf.Leaf.entries c.args.leaf.now) c.args.key c.requires.increasing c.args.val).1 in
    let cost = rw c.in_ok-leaf.ensures at c.from_leaf.ensures.cost in
    omega (arith, more, cost, c.requires.short, g.M.Shape.lawful.0)
