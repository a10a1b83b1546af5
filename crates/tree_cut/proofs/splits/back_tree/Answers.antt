use Rattle.std.proofs.Common.{sym, subst, take, drop, take-append-drop, length-drop, arith}
use Rattle.map_model.specs.Entries.{IsIncreasing}
use Rattle.map_model.proofs.Keys.{IsIncreasing-back}
use Rattle.tree_cut.proofs.splits.back_tree.Goals as goal

pub from_leaf-requires-clause-increasing : goal.from_leaf-requires-clause-increasing
from_leaf-requires-clause-increasing g c =
    let entries = g.M.Leaf.Leaf.entries c.args.leaf.now in
    let at = c.args.at in
    rw c.in_ok-back.ensures (IsIncreasing-back g.M.Key.Ord.cmp (take at entries) (drop at entries) (subst (IsIncreasing g.M.Key.Ord.cmp) (sym (take-append-drop at entries)) c.requires.increasing))

pub returns-clause-cost : goal.returns-clause-cost
returns-clause-cost g c =
    let entries = g.M.Leaf.Leaf.entries c.args.leaf.now in
    let cost = rw (c.in_ok-back.ensures, length-drop c.args.at entries) at c.from_leaf.ensures.cost in
    omega (arith, cost, c.requires.inside)
