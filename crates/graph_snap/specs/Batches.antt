-- Batches of edges, and maps of sets that they change.
use Rattle.std.specs.Prelude.{◌≡◌, ◌==◌, ◌/◌, ◌%◌, ◌^◌, [], ◌∷◌, ℕ, suc, Bool, true, false, List, cond, length, map, not}
use Rattle.aug_monoid.specs.declared.pair64.Pair64.{Pair64}
use Rattle.graph_snap.specs.Edges.{Sets, edges_of, with_edges, without_edges}
use Rattle.graph_snap.specs.declared.edge.Edge.{Edge}

-- an edge as a key without value, turned round or as it is
abbrev pub as_key : Bool → Edge → Pair64 × Unit {0}
as_key true e = (record { first = e.to; second = e.from }, tt)
as_key false e = (record { first = e.from; second = e.to }, tt)

-- keys as edges
abbrev pub as_pairs : List (Pair64 × Unit {0}) → List (ℕ × ℕ)
as_pairs keys = map (λ e. (e.0.first, e.0.second)) keys

-- numbers as edges, the second vertex in the low 32 bits
abbrev pub unpacked : List (ℕ × Unit {0}) → List (ℕ × ℕ)
unpacked keys = map (λ e. (e.0 / 2 ^ 32, e.0 % 2 ^ 32)) keys

-- the ends of edges, as keys without values
abbrev pub ends : List (ℕ × ℕ) → List (ℕ × Unit {0})
ends g = map (λ e. (e.1, tt)) g

-- how many edges at the start are from a vertex
abbrev pub run : ℕ → List (ℕ × ℕ) → ℕ
run u [] = 0
run u (e ∷ g) = cond (e.0 == u) (suc (run u g)) 0

abbrev pub has_elements : List (ℕ × Unit {0}) → Bool
has_elements ns = not (length ns == 0)

-- a map of sets has the edges of both others
abbrev pub IsUnited : Sets → Sets → Sets → Type 0
IsUnited a b both = edges_of both ≡ with_edges (edges_of a) (edges_of b)

-- a map of sets has the edges of a that b hasn't
abbrev pub IsLessened : Sets → Sets → Sets → Type 0
IsLessened a b left = edges_of left ≡ without_edges (edges_of a) (edges_of b)
