-- Keys that come in order, with their places.
use Rattle.std.proofs.Common.{◌≡◌, ℕ, ◌+◌, ◌<◌, Bool, true, false, List, [], ◌∷◌, length, map, get_or, Option, Some, refl, sym, ap, ap₂, ◌∙◌, arith}
use Rattle.std.specs.declared.cmp.Ordering.{Ordering}
use Rattle.std.specs.declared.cmp.Ordering.TheVariants.{Less, Equal, Greater}
use Rattle.std.specs.Ordering.{is_le, is_lt, is_some_and, partial_le}
use Rattle.std.specs.Cmp.{IsTotalOrder}
use Rattle.std.specs.List.{IsAllAdjacentAnswer}
use Rattle.std.specs.List.Sorted.{IsSorted, IsSortedByKey}
use Rattle.std.proofs.lemmas.Bool.{false≢true, true≢false}
use Rattle.map_model.proofs.Keys.{greater}
use Rattle.tree_many.specs.Places.{placed}
use Rattle.tree_many.proofs.Scattered.{at_place, length_placed}

module _ {K : Type 0} {order : K → K → Ordering} (total : IsTotalOrder order) where
  not_less : (x y : K) → is_le (order x y) ≡ true → is_lt (order y x) ≡ false
  not_less x y le = elim (order y x) as (λ o. order y x ≡ o → is_lt o ≡ false) [
    | Less ↦ λ is. absurd (true≢false (sym le ∙ ap is_le (greater total y x is)))
    | Equal ↦ λ _. refl
    | Greater ↦ λ _. refl
  ] refl

  -- what `is_sorted` tells
  pub sorted_from_answer : (partial : K → K → Option Ordering) → ((x y : K) → partial x y ≡ Some (order x y)) → (keys : List K) (r : Bool) → IsAllAdjacentAnswer (λ x y b. partial_le partial x y ≡ b) keys r → r ≡ true → IsSorted order keys
  sorted_from_answer partial same keys true h is = λ k d low high.
      let x = get_or keys k d in
      let y = get_or keys (k + 1) d in
      not_less x y (sym (ap (is_some_and is_le) (same x y)) ∙ h k d high)
  sorted_from_answer partial same keys false h is = absurd (false≢true is)

module _ {K : Type 0} (order : K → K → Ordering) where
  pub sorted_placed : (keys : List K) → IsSorted order keys → IsSortedByKey (λ (e : K × ℕ). e.0) order (placed 0 keys)
  sorted_placed keys up k d low high =
      let long = length_placed 0 keys in
      ap₂ (λ (x y : K × ℕ). is_lt (order x.0 y.0)) (at_place 0 keys (k + 1) d (omega (arith, long, high))) (at_place 0 keys k d (omega (arith, long, high)))
      ∙ up k d.0 low (omega (arith, long, high))

module _ {K X : Type 0} (f : K → X) where
  pub answers_in_order : (n : ℕ) (keys : List K) → map (λ (e : ℕ × X). e.1) (map {B = ℕ × X} (λ (e : K × ℕ). (e.1, f e.0)) (placed n keys)) ≡ map f keys
  answers_in_order n [] = refl
  answers_in_order n (k ∷ keys) = ap (λ xs. f k ∷ xs) (answers_in_order (n + 1) keys)
