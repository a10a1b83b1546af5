use Rattle.std.proofs.Common.{ap, drop, take, ◌∙◌, arith}
use Rattle.map_model.proofs.Cuts.{cut_missed, place_any}
use Rattle.tree_cut.proofs.splits.split_between.Goals as goal

pub front_tree-requires-clause-inside : goal.front_tree-requires-clause-inside
front_tree-requires-clause-inside g c = rw c.requires.place (place_any g.M.Key.Ord.cmp (g.M.Leaf.Leaf.entries c.args.leaf.now) c.args.key.now)

pub back_tree-requires-clause-inside : goal.back_tree-requires-clause-inside
back_tree-requires-clause-inside g c = rw c.requires.place (place_any g.M.Key.Ord.cmp (g.M.Leaf.Leaf.entries c.args.leaf.now) c.args.key.now)

pub returns-clause-below : goal.returns-clause-below
returns-clause-below g c =
    let entries = g.M.Leaf.Leaf.entries c.args.leaf.now in
    let parts = cut_missed g.met.M.Key.Ord.total g.met.M.Key.Key.exact entries c.args.key.now c.requires.increasing c.requires.missed in
    c.in_ok-lower.ensures.entries ∙ ap (λ at. take at entries) c.requires.place ∙ parts.0

pub returns-clause-above : goal.returns-clause-above
returns-clause-above g c =
    let entries = g.M.Leaf.Leaf.entries c.args.leaf.now in
    let parts = cut_missed g.met.M.Key.Ord.total g.met.M.Key.Key.exact entries c.args.key.now c.requires.increasing c.requires.missed in
    c.in_ok-higher.ensures.entries ∙ ap (λ at. drop at entries) c.requires.place ∙ parts.1

pub returns-in_err-lower-clause-cost : goal.returns-in_err-lower-clause-cost
returns-in_err-lower-clause-cost g c =
    let inside = place_any g.M.Key.Ord.cmp (g.M.Leaf.Leaf.entries c.args.leaf.now) c.args.key.now in
    omega (arith, inside, c.requires.place, c.requires.short, c.front_tree.ensures.cost)
