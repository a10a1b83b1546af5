-- Entries by their places.
use Rattle.std.proofs.Common.{◌≡◌, ℕ, zero, suc, ◌+◌, ◌-◌, ◌<◌, cond, List, [], ◌∷◌, length, take, drop, Option, Some, None, is_some, IsSome, refl, sym, ap, ◌∙◌, arith}
use Rattle.std.specs.declared.cmp.Ordering.{Ordering}
use Rattle.std.specs.Ordering.{is_eq}
use Rattle.std.specs.Cmp.{IsTotalOrder}
use Rattle.std.specs.List.{last_or, slice_get}
use Rattle.std.specs.Option.{option_and_then}
use Rattle.std.proofs.lemmas.Bool.{false_from_ne_true, true≢false}
use Rattle.std.proofs.lemmas.Option.{slice_get_within}
use Rattle.map_model.specs.Entries.{IsIncreasing, lookup, below}
use Rattle.map_model.specs.Parts.{rank, next, prev}
use Rattle.map_model.proofs.Places.{below-take, above-drop, lookup-place}

module _ {X : Type 0} where
  first_behind : (m : List X) (i : ℕ) → slice_get (drop i m) 0 ≡ slice_get m i
  first_behind [] zero = refl
  first_behind [] (suc i) = refl
  first_behind (x ∷ m) zero = refl
  first_behind (x ∷ m) (suc i) = first_behind m i

  place_in_front : (m : List X) (n i : ℕ) → i < n → slice_get (take n m) i ≡ slice_get m i
  place_in_front [] zero i h = refl
  place_in_front [] (suc n) i h = refl
  place_in_front (x ∷ m) zero i h = absurd (omega arith)
  place_in_front (x ∷ m) (suc n) zero h = refl
  place_in_front (x ∷ m) (suc n) (suc i) h = place_in_front m n i (omega arith)

  last_of : (o : Option X) (x : X) (m : List X) → last_or o (x ∷ m) ≡ slice_get (x ∷ m) (length m)
  last_of o x [] = refl
  last_of o x (y ∷ m) = last_of (Some x) y m

  -- the last entry stands at the last place
  pub last_place : (m : List X) → 0 < length m → last_or None m ≡ slice_get m (length m - 1)
  last_place [] h = absurd (omega arith)
  last_place (x ∷ m) h = last_of None x m ∙ ap (slice_get (x ∷ m)) {x = length m} {y = length (x ∷ m) - 1} (omega arith)

module _ {K V : Type 0} {order : K → K → Ordering} (total : IsTotalOrder order) (m : List (K × V)) (q : K) (s : IsIncreasing order m) where
  -- a key that is found stands at a place of the list
  pub rank_found : IsSome (lookup order m q) → rank order m q < length m
  rank_found some = elim (slice_get m (rank order m q)) as (λ o. slice_get m (rank order m q) ≡ o → rank order m q < length m) [
    | None ↦ λ is. absurd (true≢false (sym some ∙ ap is_some (lookup-place total m q s ∙ ap (option_and_then (λ e. cond (is_eq (order e.0 q)) (Some e.1) None)) is)))
    | Some e ↦ λ is. slice_get_within m (rank order m q) e is
  ] refl

  -- the next entry stands behind that of the key, or at the key's place
  pub next_behind : IsSome (lookup order m q) → next order m q ≡ slice_get m (rank order m q + 1)
  next_behind some =
      ap (λ x. slice_get x 0) (above-drop total m q s)
      ∙ first_behind m (rank order m q + cond (is_some (lookup order m q)) 1 0)
      ∙ ap (λ b. slice_get m (rank order m q + cond b 1 0)) some

  pub next_there : (IsSome (lookup order m q) → ⊥) → next order m q ≡ slice_get m (rank order m q)
  next_there none =
      ap (λ x. slice_get x 0) (above-drop total m q s)
      ∙ first_behind m (rank order m q + cond (is_some (lookup order m q)) 1 0)
      ∙ ap (λ b. slice_get m (rank order m q + cond b 1 0)) (false_from_ne_true (is_some (lookup order m q)) none)
      ∙ ap (slice_get m) {x = rank order m q + 0} (omega arith)

  -- the previous entry stands before the key's place
  pub prev_before : 0 < rank order m q → prev order m q ≡ slice_get m (rank order m q - 1)
  prev_before some =
      last_place (below order m q) some
      ∙ ap (λ x. slice_get x (rank order m q - 1)) (below-take total m q s)
      ∙ place_in_front m (rank order m q) (rank order m q - 1) (omega arith)
