use Rattle.std.proofs.Common.{◌≡◌, [], take}
use Rattle.graph_order.specs.Searches.{IsSearch}
use Rattle.graph_order.proofs.Sources.{AreSeen}
use Rattle.graph_order.proofs.order.topological_order.Given as goal

abbrev pub invariant-loop-edge : goal.invariant-loop-edge
invariant-loop-edge l = record { search : IsSearch l.graph l.search; none : l.search.walk.items ≡ []; seen : AreSeen l.search.marks (take l.edge-index l.edge-items) }
