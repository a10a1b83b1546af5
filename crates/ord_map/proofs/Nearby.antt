-- How the entries nearest to a key are found.
use Rattle.std.proofs.Common.{◌≡◌, ℕ, zero, suc, cond, List, [], ◌∷◌, ◌++◌, drop, Option, Some, None, refl, ap, ◌∙◌, subst}
use Rattle.std.specs.declared.cmp.Ordering.{Ordering}
use Rattle.std.specs.declared.cmp.Ordering.TheVariants.{Less, Equal, Greater}
use Rattle.std.specs.Ordering.{is_eq, is_le, is_lt}
use Rattle.std.specs.Cmp.{IsTotalOrder}
use Rattle.std.specs.List.{last_or, slice_get}
use Rattle.std.proofs.lemmas.Cmp.{tied_itself}
use Rattle.map_model.specs.Order.{IsExact}
use Rattle.map_model.specs.Entries.{IsIncreasing, above, below, lookup}
use Rattle.map_model.specs.Parts.{left_of, prev, rank, select}
use Rattle.map_model.proofs.Around.{left_of-around_equal}
use Rattle.map_model.proofs.Places.{right_of-drop}
use Rattle.map_model.proofs.Splits.{split_found}
use Rattle.ord_map.specs.Nearest.{ceiling, floor}

module _ {X : Type 0} where
  last_behind : (o : Option X) (m : List X) (x : X) → last_or o (m ++ x ∷ []) ≡ Some x
  last_behind o [] x = refl
  last_behind o (y ∷ m) x = last_behind (Some y) m x

  first_behind : (m : List X) (i : ℕ) → slice_get (drop i m) 0 ≡ slice_get m i
  first_behind [] zero = refl
  first_behind [] (suc i) = refl
  first_behind (x ∷ m) zero = refl
  first_behind (x ∷ m) (suc i) = first_behind m i

module _ {K V : Type 0} (order : K → K → Ordering) (k : K) where
  left_absent : (m : List (K × V)) → lookup order m k ≡ None → left_of order m k ≡ below order m k
  left_absent [] none = refl
  left_absent (e ∷ m) none =
      elim (order e.0 k) as (λ o. cond (is_eq o) (Some e.1) (lookup order m k) ≡ None → cond (is_le o) (e ∷ left_of order m k) (left_of order m k) ≡ cond (is_lt o) (e ∷ below order m k) (below order m k)) [
        | Less ↦ λ is. ap (λ z. e ∷ z) (left_absent m is)
        | Equal ↦ λ is. cc
        | Greater ↦ λ is. left_absent m is
      ] none

-- a key that the map hasn't: the floor is the entry before it
pub floor_absent : {K V : Type 0} (order : K → K → Ordering) (m : List (K × V)) (k : K) → lookup order m k ≡ None → floor order m k ≡ prev order m k
floor_absent order m k none = ap (last_or None) (left_absent order k m none)

module _ {K V : Type 0} {order : K → K → Ordering} (total : IsTotalOrder order) where
  -- a key that the map has: the floor is its entry
  pub floor_found : IsExact order → (m : List (K × V)) (k : K) (v : V) → IsIncreasing order m → lookup order m k ≡ Some v → floor order m k ≡ Some (k, v)
  floor_found exact m k v s found =
      let whole = split_found total exact m k v s found in
      let left = left_of-around_equal total (below order m k) k v (above order m k) k (subst (IsIncreasing order) whole s) (tied_itself total k) in
      ap (λ x. last_or None (left_of order x k)) whole ∙ ap (last_or None) left ∙ last_behind None (below order m k) (k, v)

  -- the ceiling stands behind all lesser keys
  pub ceiling_place : (m : List (K × V)) (k : K) → IsIncreasing order m → ceiling order m k ≡ select m (rank order m k)
  ceiling_place m k s = ap (λ x. slice_get x 0) (right_of-drop total m k s) ∙ first_behind m (rank order m k)
