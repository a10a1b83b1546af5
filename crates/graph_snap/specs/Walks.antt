-- Walks, and what they reach.
use Rattle.std.specs.Prelude.{◌≡◌, ◌&&◌, ◌+◌, ◌==◌, ◌≤◌, ◌↔◌, [], ◌∷◌, ℕ, suc, zero, Bool, true, false, List, Option, None, Some, IsTrue, cond, is_some, length, map, nat_le}
use Rattle.std.specs.List.{Contains, filter, filter_map, flat_map, list_any}
use Rattle.std.specs.Map.{keys_of}
use Rattle.std.specs.Option.{option_map, option_or}
use Rattle.std.specs.Ordering.{nat_cmp}
use Rattle.map_model.specs.Entries.{lookup}
use Rattle.map_model.specs.Operations.{build}
use Rattle.graph_snap.specs.Edges.{elements}
use Rattle.graph_snap.specs.declared.edge.Reached.{Reached}

-- whether a walk of d edges leads from s to v
abbrev pub walk : List (ℕ × ℕ) → ℕ → ℕ → ℕ → Bool
walk g s v zero = v == s
walk g s v (suc d) = list_any (λ e. e.1 == v && walk g s e.0 d) g

-- d is the least number of edges of a walk from s to v
pub record IsDistance (g : List (ℕ × ℕ)) (s v d : ℕ) : Type 0 where
  pub walks : walk g s v d ≡ true
  pub none_shorter : (c : ℕ) → walk g s v c ≡ true → d ≤ c

-- the least number below n that passes
abbrev pub least : (ℕ → Bool) → ℕ → Option ℕ
least passes zero = None
least passes (suc n) = option_or (least passes n) (cond (passes n) (Some n) None)

-- s and the ends of all edges, in order
abbrev pub vertices : List (ℕ × ℕ) → ℕ → List ℕ
vertices g s = keys_of (build nat_cmp (elements (s ∷ flat_map (λ e. e.0 ∷ e.1 ∷ []) g)))

-- each vertex with a walk of at most as many edges as there are, with the least number of edges of such a walk
abbrev pub distances : List (ℕ × ℕ) → ℕ → List (ℕ × ℕ)
distances g s = filter_map (λ v. option_map (λ d. (v, d)) (least (walk g s v) (length g + 1))) (vertices g s)

abbrev pub as_reached : List (ℕ × ℕ) → List Reached
as_reached found = map (λ r. record { vertex = r.0; distance = r.1 }) found

-- what a search from s finds
abbrev pub reach : List (ℕ × ℕ) → ℕ → List Reached
reach g s = as_reached (distances g s)

-- what of it walks of at most so many edges reach
abbrev pub reach_within : List (ℕ × ℕ) → ℕ → ℕ → List Reached
reach_within g s most = filter (λ r. nat_le r.distance most) (reach g s)

-- a list has a vertex with a distance just where that is the least number of edges of a walk to it
abbrev pub HasDistances : List (ℕ × ℕ) → ℕ → List Reached → Type 0
HasDistances g s found = (v d : ℕ) → Contains found (record { vertex = v; distance = d }) ↔ IsDistance g s v d

-- a walk from u to v: each of the vertices behind u has an edge from the one before it, and the last is v
abbrev pub IsWalk : List (ℕ × ℕ) → ℕ → List ℕ → ℕ → Type 0
IsWalk g u [] v = u ≡ v
IsWalk g u (w ∷ ws) v = Contains g (u, w) × IsWalk g w ws v

-- the vertices of a walk from s to t, both of them included, that has the least number of edges
pub record IsLeastPath (g : List (ℕ × ℕ)) (s t : ℕ) (path : List ℕ) : Type 0 where
  pub later : List ℕ
  pub begins : path ≡ s ∷ later
  pub walks : IsWalk g s later t
  pub least : IsDistance g s t (length later)

-- no walk leads from s to t
abbrev pub IsOutOfReach : List (ℕ × ℕ) → ℕ → ℕ → Type 0
IsOutOfReach g s t = (d : ℕ) → walk g s t d ≡ false

-- a front, as a map, has just the vertices at distance d
abbrev pub IsFront : List (ℕ × ℕ) → ℕ → ℕ → List (ℕ × ℕ) → Type 0
IsFront g s d front = (v : ℕ) → IsTrue (is_some (lookup nat_cmp front v)) ↔ IsDistance g s v d

-- fronts, one for each distance from d on
abbrev pub AreFronts : List (ℕ × ℕ) → ℕ → ℕ → List (List (ℕ × ℕ)) → Type 0
AreFronts g s d [] = Unit {0}
AreFronts g s d (front ∷ fronts) = IsFront g s d front × AreFronts g s (suc d) fronts

-- one for each distance below that of t
abbrev pub AreFrontsTo : List (ℕ × ℕ) → ℕ → ℕ → List (List (ℕ × ℕ)) → Type 0
AreFrontsTo g s t fronts = AreFronts g s 0 fronts × IsDistance g s t (length fronts)
