use Rattle.graph_comp.proofs.Trees.{Climbed}
use Rattle.graph_comp.proofs.forest.root.Given as goal

abbrev pub invariant-climb : goal.invariant-climb
invariant-climb l = Climbed l.fn.parents l.parents l.start l.place

abbrev pub decreases-climb : goal.decreases-climb
decreases-climb l = l.place
