use Rattle.std.proofs.Common.{sym}
use Rattle.graph_comp.proofs.Trees.{united}
use Rattle.graph_comp.proofs.forest.unite.Goals as goal

pub returns-then-near-far-clause-united : goal.returns-then-near-far-clause-united
returns-then-near-far-clause-united c =
    united c.args.parents.now c.root-near.new.parents c.root-far.new.parents c.hang.new.parents c.args.one c.args.other c.root-near.result c.root-far.result
    c.root-near.ensures.same c.root-far.ensures.same c.root-near.ensures.tree c.root-far.ensures.tree c.hang.ensures.hung

pub returns-else-near-far-clause-united : goal.returns-else-near-far-clause-united
returns-else-near-far-clause-united c =
    united c.args.parents.now c.root-near.new.parents c.root-far.new.parents c.hang-else-near-far.new.parents c.args.one c.args.other c.root-near.result c.root-far.result
    c.root-near.ensures.same c.root-far.ensures.same c.root-near.ensures.tree c.root-far.ensures.tree
    (λ label. ((λ keeps. let both = (c.hang-else-near-far.ensures.hung label).0 keeps in (both.0, sym both.1)), (λ keeps. (c.hang-else-near-far.ensures.hung label).1 (keeps.0, sym keeps.1))))
