-- What operations on edges make of a graph, which is seen as the list of its edges.
use Rattle.std.specs.Prelude.{ℕ, List, [], ◌∷◌}
use Rattle.graph_snap.specs.Edges.{with_edges, without_edges}
use Rattle.served_graph.specs.declared.op.GraphOp.{GraphOp}
use Rattle.served_graph.specs.declared.op.GraphOp.TheVariants.{Add, Cut}

-- the edges after an operation
abbrev pub step : List (ℕ × ℕ) → GraphOp → List (ℕ × ℕ)
step g (Add from to) = with_edges g ((from, to) ∷ [])
step g (Cut from to) = without_edges g ((from, to) ∷ [])
