-- Sets of vertices, merged.
use Rattle.std.specs.Prelude.{◌≡◌, [], ◌∷◌, ℕ, Bool, List, is_some, map}
use Rattle.std.specs.List.{flat_map}
use Rattle.std.specs.Ordering.{nat_cmp}
use Rattle.std.specs.Option.{option_map_or}
use Rattle.map_model.specs.Entries.{lookup, set}
use Rattle.map_model.specs.Operations.{build}
use Rattle.map_model.specs.SetOperations.{difference, union}
use Rattle.graph_snap.specs.Edges.{AreSets, Sets, edges_of, set_at}

abbrev pub merged : List (ℕ × Unit {0}) → List (ℕ × Unit {0}) → List (ℕ × Unit {0})
merged a b = union nat_cmp (λ x y. x) a b

-- a set with an element
abbrev pub with_element : List (ℕ × Unit {0}) → ℕ → List (ℕ × Unit {0})
with_element ns v = set nat_cmp ns v tt

-- a set has this element and no other
abbrev pub IsOnlyElement : List (ℕ × Unit {0}) → ℕ → Type 0
IsOnlyElement ns v = ns ≡ (v, tt) ∷ []

-- the set that a vertex has when elements are added
abbrev pub renewed_set : Sets → ℕ → List (ℕ × Unit {0}) → List (ℕ × Unit {0})
renewed_set sets u more = option_map_or (λ ns. merged ns more) (lookup nat_cmp sets u) more

-- those of all vertices to which sets are added
abbrev pub renewed : Sets → Sets → Sets
renewed sets batch = map (λ s. (s.0, renewed_set sets s.0 s.1)) batch

-- a list has the sets that vertices have when edges are added, of those that an edge is from
pub record AreRenewed (sets : Sets) (edges : List (ℕ × ℕ)) (list : Sets) : Type 0 where
  pub batch : Sets
  pub are : AreSets batch
  pub has : edges_of batch ≡ edges
  pub is : list ≡ renewed sets batch

-- the out-neighbours of all vertices of a front, in order
abbrev pub neighbours_of : Sets → List (ℕ × ℕ) → List (ℕ × Unit {0})
neighbours_of sets front = build nat_cmp (flat_map (λ e. set_at sets e.0) front)

-- vertices with one distance
abbrev pub at_distance : ℕ → List (ℕ × Unit {0}) → List (ℕ × ℕ)
at_distance d near = map (λ e. (e.0, d)) near

-- the vertices that an edge leads to from a front and that were not found before, with their distance
abbrev pub next_front : Sets → List (ℕ × ℕ) → List (ℕ × ℕ) → ℕ → List (ℕ × ℕ)
next_front sets front found d = difference nat_cmp (at_distance d (neighbours_of sets front)) found

-- whether an edge leads from u to v
abbrev pub leads : Sets → ℕ → ℕ → Bool
leads sets u v = is_some (lookup nat_cmp (set_at sets u) v)
