-- The connected components of a graph, whose edges may be followed both ways.
use Rattle.std.specs.Prelude.{◌≡◌, ◌≤◌, ◌⊎◌, ◌==◌, ◌||◌, ℕ, List, [], ◌∷◌, All, cond, fold, map, min}
use Rattle.std.specs.List.{Contains, flat_map}
use Rattle.std.specs.Map.{keys_of}
use Rattle.std.specs.Ordering.{nat_cmp}
use Rattle.map_model.specs.Operations.{build}
use Rattle.graph_snap.specs.Edges.{elements}
use Rattle.graph_comp.specs.declared.labelled.Labelled.{Labelled}

-- there is an edge between two vertices, in one of the two directions
abbrev pub AreNeighbours : List (ℕ × ℕ) → ℕ → ℕ → Type 0
AreNeighbours g u v = Contains g (u, v) ⊎ Contains g (v, u)

-- a list of vertices leads from u to v: each is a neighbour of the one before it, the first of u, and the last is v
abbrev pub Leads : List (ℕ × ℕ) → ℕ → List ℕ → ℕ → Type 0
Leads g u [] v = u ≡ v
Leads g u (w ∷ ws) v = AreNeighbours g u w × Leads g w ws v

-- some list of vertices leads from u to v; a vertex is joined with itself
pub record AreJoined (g : List (ℕ × ℕ)) (u v : ℕ) : Type 0 where
  pub way : List ℕ
  pub leads : Leads g u way v

-- the sources and targets of all edges, in order, each once
abbrev pub ends : List (ℕ × ℕ) → List ℕ
ends g = keys_of (build nat_cmp (elements (flat_map (λ e. e.0 ∷ e.1 ∷ []) g)))

-- the least vertex that v is joined with
pub record IsLeastJoined (g : List (ℕ × ℕ)) (v least : ℕ) : Type 0 where
  pub joined : AreJoined g v least
  pub none_less : (w : ℕ) → AreJoined g v w → least ≤ w

-- the ends of the edges, each with the least vertex that it is joined with
pub record AreComponents (g : List (ℕ × ℕ)) (list : List Labelled) : Type 0 where
  pub vertices : map (λ (l : Labelled). l.vertex) list ≡ ends g
  pub labels : All (λ (l : Labelled). IsLeastJoined g l.vertex l.label) list

-- an edge makes the components of its two ends one, with the lesser of their labels
abbrev pub united : (ℕ → ℕ) → ℕ × ℕ → ℕ → ℕ
united label e v = cond (label v == label e.0 || label v == label e.1) (min (label e.0) (label e.1)) (label v)

-- the least vertex that a vertex is joined with: without edges the vertex itself, and each edge joins two components
unfoldable pub least_joined : List (ℕ × ℕ) → ℕ → ℕ
least_joined g = fold united (λ v. v) g

-- what is told of a graph's components
unfoldable pub components : List (ℕ × ℕ) → List Labelled
components g = map (λ v. record { vertex = v; label = least_joined g v }) (ends g)
