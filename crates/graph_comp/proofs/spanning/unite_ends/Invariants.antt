use Rattle.std.proofs.Common.{take}
use Rattle.graph_comp.specs.Forests.{Spans}
use Rattle.graph_comp.proofs.spanning.unite_ends.Given as goal

abbrev pub invariant-loop-edge : goal.invariant-loop-edge
invariant-loop-edge l = Spans l.vertices (take l.edge-index l.edges) l.parents
