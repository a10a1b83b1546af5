-- Maps of sets of out-neighbours as lists of edges.
use Rattle.std.specs.Prelude.{ℕ, List, map}
use Rattle.std.specs.List.{flat_map}
use Rattle.graph_snap.specs.Edges.{Sets}
use Rattle.graph_snap.specs.declared.edge.Edge.{Edge}

-- the edges from a vertex to the elements of a set
abbrev pub edges_from : ℕ → List (ℕ × Unit {0}) → List Edge
edges_from u ns = map (λ x. record { from = u; to = x.0 }) ns

-- those from all vertices
abbrev pub edge_list : Sets → List Edge
edge_list sets = flat_map (λ s. edges_from s.0 s.1) sets
