-- What a search finds, as least numbers of edges of walks.
use Rattle.std.proofs.Common.{◌≡◌, ◌∙◌, ◌+◌, ◌∷◌, [], ℕ, zero, suc, true, false, cond, List, Some, length, refl, sym, ap, ap₂, subst, inl, inr, arith}
use Rattle.std.specs.declared.cmp.Ordering.TheVariants.{Less, Equal, Greater}
use Rattle.std.specs.List.{Contains}
use Rattle.std.specs.Ordering.{is_eq, nat_cmp}
use Rattle.std.proofs.lemmas.Bool.{cases_lt, false≢true}
use Rattle.std.proofs.lemmas.Cmp.{nat_cmp_total}
use Rattle.std.proofs.lemmas.Option.{none-some, same_Some}
use Rattle.map_model.specs.Entries.{IsIncreasing, lookup}
use Rattle.map_model.proofs.Lookups.{first_found, lookup-behind}
use Rattle.map_model.proofs.NatKeys.{nat_exact}
use Rattle.graph_snap.specs.Walks.{HasDistances, IsDistance, as_reached, distances, reach, walk}
use Rattle.graph_snap.specs.declared.edge.Reached.{Reached}
use Rattle.graph_snap.proofs.Fronts.{distances_rise, found-distances}
use Rattle.graph_snap.proofs.Levels.{least_is, least_some, short_walk}

abbrev at_distance : ℕ → ℕ → Reached
at_distance v d = record { vertex = v; distance = d }

-- ---- lists and maps

found_from_list : (m : List (ℕ × ℕ)) (v d : ℕ) → IsIncreasing nat_cmp m → Contains (as_reached m) (at_distance v d) → lookup nat_cmp m v ≡ Some d
found_from_list [] v d rises (k, within, is) = absurd (let none : ⊥ = omega (arith, within) in none)
found_from_list (e ∷ m) v d rises (zero, within, is) =
    ap (lookup nat_cmp (e ∷ m)) (sym (ap (λ (r : Reached). r.vertex) is)) ∙ first_found nat_cmp_total e m ∙ ap Some (ap (λ (r : Reached). r.distance) is)
found_from_list (e ∷ m) v d rises (suc k, within, is) =
    let there = found_from_list m v d rises.1 (k, omega (arith, within), is) in
    elim (nat_cmp e.0 v) as (λ o. nat_cmp e.0 v ≡ o → cond (is_eq o) (Some e.1) (lookup nat_cmp m v) ≡ Some d) [
      | Less ↦ λ _. there
      | Equal ↦ λ is. absurd (none-some d (sym (lookup-behind nat_cmp_total e m v rises is) ∙ there))
      | Greater ↦ λ _. there
    ] refl

list_from_found : (m : List (ℕ × ℕ)) (v d : ℕ) → lookup nat_cmp m v ≡ Some d → Contains (as_reached m) (at_distance v d)
list_from_found [] v d h = absurd (none-some d h)
list_from_found (e ∷ m) v d h =
    let behind : lookup nat_cmp m v ≡ Some d → Contains (as_reached (e ∷ m)) (at_distance v d) = λ h. let there = list_from_found m v d h in let within = there.1 in (suc there.0, omega (arith, within), there.2) in
    elim (nat_cmp e.0 v) as (λ o. nat_cmp e.0 v ≡ o → cond (is_eq o) (Some e.1) (lookup nat_cmp m v) ≡ Some d → Contains (as_reached (e ∷ m)) (at_distance v d)) [
      | Less ↦ λ _ h. behind h
      | Equal ↦ λ is h. (0, omega arith, ap₂ at_distance (nat_exact e.0 v is) (same_Some e.1 d h))
      | Greater ↦ λ _ h. behind h
    ] refl h

-- ---- least numbers of edges

module _ (g : List (ℕ × ℕ)) (s v d : ℕ) where
  least_walk : lookup nat_cmp (distances g s) v ≡ Some d → IsDistance g s v d
  least_walk h =
      let r = least_some (walk g s v) (length g + 1) d (sym (found-distances g s v) ∙ h) in
      record {
        walks = r.passes;
        none_shorter = λ c w. elim (cases_lt c d) [ inl low ↦ absurd (false≢true (sym (r.first c low) ∙ w)) | inr high ↦ high ];
      }

  walk_found : IsDistance g s v d → lookup nat_cmp (distances g s) v ≡ Some d
  walk_found is =
      let short = short_walk g s v d is.walks in
      let no_less = is.none_shorter short.0 short.1 in
      let within = short.2 in
      found-distances g s v
      ∙ least_is (walk g s v) (length g + 1) d (omega (arith, no_less, within)) is.walks (λ k low.
      elim (walk g s v k) as (λ b. walk g s v k ≡ b → b ≡ false) [
        | true ↦ λ w. let first = is.none_shorter k w in absurd (let none : ⊥ = omega (arith, low, first) in none)
        | false ↦ λ _. refl
      ] refl)

pub reach_is_least : (g : List (ℕ × ℕ)) (s : ℕ) → HasDistances g s (reach g s)
reach_is_least g s v d = (
  (λ h. least_walk g s v d (found_from_list (distances g s) v d (distances_rise g s) h)),
  (λ is. list_from_found (distances g s) v d (walk_found g s v d is)),
)

-- the same of what is found
pub has_distances : (g : List (ℕ × ℕ)) (s : ℕ) (found : List Reached) → found ≡ reach g s → HasDistances g s found
has_distances g s found is = subst (HasDistances g s) (sym is) (reach_is_least g s)
