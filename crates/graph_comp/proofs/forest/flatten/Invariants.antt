use Rattle.graph_comp.proofs.Trees.{Flattened}
use Rattle.graph_comp.proofs.forest.flatten.Given as goal

abbrev pub invariant-loop-place : goal.invariant-loop-place
invariant-loop-place l = Flattened l.fn.parents l.parents l.place
