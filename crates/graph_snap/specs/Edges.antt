-- A graph is the list of its edges, pairs of vertices that increase by the first vertex and then by the second.
use Rattle.std.specs.Prelude.{◌≡◌, ◌==◌, ◌<◌, ◌↔◌, [], ℕ, List, Some, length, map}
use Rattle.std.specs.List.{Contains, filter, flat_map}
use Rattle.std.specs.Map.{keys_of}
use Rattle.std.specs.Option.{unwrap_or}
use Rattle.std.specs.declared.cmp.Ordering.{Ordering}
use Rattle.std.specs.Ordering.{nat_cmp, ordering_then}
use Rattle.map_model.specs.Entries.{IsIncreasing, lookup}
use Rattle.map_model.specs.Operations.{after, build, dels, puts}
use Rattle.graph_snap.specs.declared.edge.Edge.{Edge}

abbrev pub edge_order : ℕ × ℕ → ℕ × ℕ → Ordering
edge_order a b = ordering_then (nat_cmp a.0 b.0) (nat_cmp a.1 b.1)

-- a set is a map whose keys are its elements
abbrev pub elements : {K : Type 0} → List K → List (K × Unit {0})
elements ks = map (λ k. (k, tt)) ks

abbrev pub IsGraph : List (ℕ × ℕ) → Type 0
IsGraph g = IsIncreasing edge_order (elements g)

-- the graph with these edges
abbrev pub with_edges : List (ℕ × ℕ) → List (ℕ × ℕ) → List (ℕ × ℕ)
with_edges g list = keys_of (after edge_order (elements g) (puts (elements list)))

-- the graph without these edges
abbrev pub without_edges : List (ℕ × ℕ) → List (ℕ × ℕ) → List (ℕ × ℕ)
without_edges g list = keys_of (after edge_order (elements g) (dels list))

-- edges, each turned round
abbrev pub turned : List (ℕ × ℕ) → List (ℕ × ℕ)
turned list = map (λ e. (e.1, e.0)) list

-- the graph with each edge turned round
abbrev pub reversed : List (ℕ × ℕ) → List (ℕ × ℕ)
reversed g = with_edges [] (turned g)

-- a graph has an edge just where another has the one the other way
abbrev pub IsReverse : List (ℕ × ℕ) → List (ℕ × ℕ) → Type 0
IsReverse g other = (u v : ℕ) → Contains other (v, u) ↔ Contains g (u, v)

-- the vertices with an out-neighbour, in order
abbrev pub sources : List (ℕ × ℕ) → List ℕ
sources g = keys_of (build nat_cmp (elements (map (λ e. e.0) g)))

-- the out-neighbours of a vertex
abbrev pub out_neighbours : List (ℕ × ℕ) → ℕ → List ℕ
out_neighbours g v = map (λ e. e.1) (filter (λ e. e.0 == v) g)

-- edges as pairs
abbrev pub pairs_of : List Edge → List (ℕ × ℕ)
pairs_of list = map (λ e. (e.from, e.to)) list

-- a map from vertices to their sets of out-neighbours
abbrev pub Sets : Type 0
Sets = List (ℕ × List (ℕ × Unit {0}))

-- the edges of a map from vertices to sets of out-neighbours
abbrev pub edges_of : Sets → List (ℕ × ℕ)
edges_of sets = flat_map (λ s. map (λ x. (s.0, x.0)) s.1) sets

-- a set has an element, and its elements increase
pub record IsFilled (ns : List (ℕ × Unit {0})) : Type 0 where
  pub some : 0 < length ns
  pub increasing : IsIncreasing nat_cmp ns

-- the vertices increase, and each has an out-neighbour
pub record AreSets (sets : Sets) : Type 0 where
  pub increasing : IsIncreasing nat_cmp sets
  pub filled : (u : ℕ) (ns : List (ℕ × Unit {0})) → lookup nat_cmp sets u ≡ Some ns → IsFilled ns

-- the set of a vertex
abbrev pub set_at : Sets → ℕ → List (ℕ × Unit {0})
set_at sets u = unwrap_or (lookup nat_cmp sets u) []
