-- How many entries a slice has, by places.
use Rattle.std.proofs.Common.{◌≡◌, ℕ, ◌+◌, true, false, cond, ◌&&◌, List, [], ◌∷◌, length, is_some, None, Some, refl, sym, ap, ◌≤◌, ◌∙◌, arith}
use Rattle.std.specs.declared.cmp.Ordering.{Ordering}
use Rattle.std.specs.declared.cmp.Ordering.TheVariants.{Less, Equal, Greater}
use Rattle.std.specs.Ordering.{is_eq, is_lt, is_gt, is_le, is_ge}
use Rattle.std.specs.Cmp.{IsTotalOrder}
use Rattle.std.proofs.lemmas.Cmp.{upto}
use Rattle.map_model.specs.Entries.{IsIncreasing, lookup, below}
use Rattle.map_model.specs.Parts.{left_of, rank, slice}
use Rattle.map_model.proofs.Lookups.{lookup-behind}
use Rattle.map_model.proofs.Lengths.{length-filter_le}
use Rattle.map_model.proofs.Ranges.{slice-none}
use Rattle.aug_monoid.specs.declared.pair64.Pair64.{Pair64}
use Rattle.aug_monoid.specs.Exact.{pair64_cmp}
use Rattle.range_tree.specs.Places.{pair64_total}

le_from_not_gt : (o : Ordering) → is_gt o ≡ false → is_le o ≡ true
le_from_not_gt Less h = refl
le_from_not_gt Equal h = refl
le_from_not_gt Greater h = cc

greater_from_test : (o : Ordering) → is_gt o ≡ true → o ≡ Greater
greater_from_test Less h = cc
greater_from_test Equal h = cc
greater_from_test Greater h = refl

module _ {K V : Type 0} {order : K → K → Ordering} (total : IsTotalOrder order) (hi : K) where
  -- the keys at most hi are those below it, and it itself if the map has it
  left_of-counts : (m : List (K × V)) → IsIncreasing order m → length (left_of order m hi) ≡ rank order m hi + cond (is_some (lookup order m hi)) 1 0
  left_of-counts [] s = refl
  left_of-counts (e ∷ m) s =
      let rest = left_of-counts m s.1 in
      elim (order e.0 hi) as (λ o. order e.0 hi ≡ o → length (cond (is_le o) (e ∷ left_of order m hi) (left_of order m hi)) ≡ length (cond (is_lt o) (e ∷ below order m hi) (below order m hi)) + cond (is_some (cond (is_eq o) (Some e.1) (lookup order m hi))) 1 0) [
        | Less ↦ λ _. omega (arith, rest)
        | Equal ↦ λ is. let none : ◌≡◌ {A = ℕ} (cond (is_some (lookup order m hi)) 1 0) 0 = ap (λ o. cond (is_some o) 1 0) (lookup-behind total e m hi s is) in omega (arith, rest, none)
        | Greater ↦ λ _. rest
      ] refl

  module _ (lo : K) (ordered : is_gt (order lo hi) ≡ false) where
    -- the keys at most hi are those below lo, and those from lo on
    slice-left : (m : List (K × V)) → length (left_of order m hi) ≡ rank order m lo + length (slice order m lo hi)
    slice-left [] = refl
    slice-left (e ∷ m) =
        let rest = slice-left m in
        let within : order e.0 lo ≡ Less → is_le (order e.0 hi) ≡ true = λ less. le_from_not_gt (order e.0 hi) (upto total e.0 lo hi (ap is_gt less) ordered) in
        elim (order e.0 lo) as (λ o. order e.0 lo ≡ o → length (cond (is_le (order e.0 hi)) (e ∷ left_of order m hi) (left_of order m hi)) ≡ length (cond (is_lt o) (e ∷ below order m lo) (below order m lo)) + length (cond (is_ge o && is_le (order e.0 hi)) (e ∷ slice order m lo hi) (slice order m lo hi))) [
          | Less ↦ λ is. rw (within is) (omega (arith, rest))
          | Equal ↦ λ _. elim (is_le (order e.0 hi)) as (λ b. length (cond b (e ∷ left_of order m hi) (left_of order m hi)) ≡ length (below order m lo) + length (cond b (e ∷ slice order m lo hi) (slice order m lo hi))) [ true ↦ omega (arith, rest) | false ↦ rest ]
          | Greater ↦ λ _. elim (is_le (order e.0 hi)) as (λ b. length (cond b (e ∷ left_of order m hi) (left_of order m hi)) ≡ length (below order m lo) + length (cond b (e ∷ slice order m lo hi) (slice order m lo hi))) [ true ↦ omega (arith, rest) | false ↦ rest ]
        ] refl

-- ---- of a map of weights

pub counted_found : (m : List (Pair64 × ℕ)) (key : Pair64) (v : ℕ) → IsIncreasing pair64_cmp m → Some v ≡ lookup pair64_cmp m key → rank pair64_cmp m key + 1 ≡ length (left_of pair64_cmp m key)
counted_found m key v s found = sym (left_of-counts pair64_total key m s ∙ ap (λ o. rank pair64_cmp m key + cond (is_some o) 1 0) (sym found))

pub counted_absent : (m : List (Pair64 × ℕ)) (key : Pair64) → IsIncreasing pair64_cmp m → None ≡ lookup pair64_cmp m key → rank pair64_cmp m key ≡ length (left_of pair64_cmp m key)
counted_absent m key s none = sym (left_of-counts pair64_total key m s ∙ ap (λ o. rank pair64_cmp m key + cond (is_some o) 1 0) (sym none) ∙ omega arith)

pub rank_fits : (m : List (Pair64 × ℕ)) (key : Pair64) → rank pair64_cmp m key ≤ length m
rank_fits m key = length-filter_le (λ (e : Pair64 × ℕ). is_lt (pair64_cmp e.0 key)) m

pub counted_between : (m : List (Pair64 × ℕ)) (lo hi : Pair64) → is_gt (pair64_cmp lo hi) ≡ false → length (left_of pair64_cmp m hi) ≡ rank pair64_cmp m lo + length (slice pair64_cmp m lo hi)
counted_between m lo hi ordered = slice-left pair64_total hi lo ordered m

pub counted_none : (m : List (Pair64 × ℕ)) (lo hi : Pair64) → is_gt (pair64_cmp lo hi) ≡ true → 0 ≡ length (slice pair64_cmp m lo hi)
counted_none m lo hi past = sym (ap length (slice-none pair64_total m lo hi (greater_from_test (pair64_cmp lo hi) past)))

pub slice_fits : (m : List (Pair64 × ℕ)) (lo hi : Pair64) → length (slice pair64_cmp m lo hi) ≤ length m
slice_fits m lo hi = length-filter_le (λ (e : Pair64 × ℕ). is_ge (pair64_cmp e.0 lo) && is_le (pair64_cmp e.0 hi)) m
