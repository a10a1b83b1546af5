-- Forests over the places of a list of vertices: of each place the place of its parent.
use Rattle.std.specs.Prelude.{◌≡◌, ◌≤◌, ◌↔◌, ℕ, List, All, EachIndex, length, slice_index}
use Rattle.std.specs.List.{Contains}
use Rattle.std.specs.List.Sorted.{IsNonDecreasing}
use Rattle.graph_snap.specs.declared.edge.Edge.{Edge}

-- no parent is behind its place
abbrev pub IsForest : List ℕ → Type 0
IsForest parents = EachIndex parents (λ v. slice_index parents v ≤ v)

-- each place has the label of its parent
abbrev pub KeepsTrees : (ℕ → ℕ) → List ℕ → Type 0
KeepsTrees label parents = EachIndex parents (λ v. label (slice_index parents v) ≡ label v)

-- each parent is a root
abbrev pub IsFlat : List ℕ → Type 0
IsFlat parents = EachIndex parents (λ v. slice_index parents (slice_index parents v) ≡ slice_index parents v)

-- both ends of each edge have one label
abbrev pub KeepsEdges : (ℕ → ℕ) → List Edge → Type 0
KeepsEdges label edges = All (λ e. label e.from ≡ label e.to) edges

-- vertices in order, among them both ends of each edge
pub record HasEnds (vertices : List ℕ) (edges : List Edge) : Type 0 where
  pub order : IsNonDecreasing vertices
  pub ends : All (λ (e : Edge). Contains vertices e.from × Contains vertices e.to) edges

-- the trees of a forest are what edges join: just those labels that are the same at both ends of each edge are one in each tree
pub record Spans (vertices : List ℕ) (edges : List Edge) (parents : List ℕ) : Type 0 where
  pub forest : IsForest parents
  pub whole : length parents ≡ length vertices
  pub joined : (label : ℕ → ℕ) → KeepsTrees (λ v. label (slice_index vertices v)) parents ↔ KeepsEdges label edges
