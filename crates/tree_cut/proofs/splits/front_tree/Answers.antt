use Rattle.std.proofs.Common.{sym, subst, take, drop, take-append-drop}
use Rattle.std.proofs.lemmas.List.{length-take-le}
use Rattle.map_model.specs.Entries.{IsIncreasing}
use Rattle.map_model.proofs.Keys.{IsIncreasing-front}
use Rattle.tree_cut.proofs.splits.front_tree.Goals as goal

pub from_leaf-requires-clause-increasing : goal.from_leaf-requires-clause-increasing
from_leaf-requires-clause-increasing g c =
    let entries = g.M.Leaf.Leaf.entries c.args.leaf.now in
    let at = c.args.at in
    rw c.in_ok-front.ensures (IsIncreasing-front g.M.Key.Ord.cmp (take at entries) (drop at entries) (subst (IsIncreasing g.M.Key.Ord.cmp) (sym (take-append-drop at entries)) c.requires.increasing))

pub returns-clause-cost : goal.returns-clause-cost
returns-clause-cost g c =
    let entries = g.M.Leaf.Leaf.entries c.args.leaf.now in
    let cost = rw (c.in_ok-front.ensures, length-take-le c.args.at entries c.requires.inside) at c.from_leaf.ensures.cost in
    cost
