-- Points sorted by place.
use Rattle.std.proofs.Common.{◌≡◌, ℕ, zero, suc, ◌+◌, ◌<◌, Bool, true, false, List, [], ◌∷◌, length, map, get_or, sym, ap, ◌∙◌, arith, add-one}
use Rattle.std.specs.List.{AllByRecursion}
use Rattle.std.specs.List.{IsDistinct}
use Rattle.std.specs.List.Sorted.{IsPermutation, IsSortedByKey, IsStableByKey}
use Rattle.std.specs.declared.cmp.Ordering.TheVariants.{Less}
use Rattle.std.specs.Ordering.{is_eq, is_lt}
use Rattle.std.proofs.lemmas.Cmp.{eq_by_cmp_equiv}
use Rattle.std.proofs.lemmas.Map.Keys.{IsDistinct-IsPermutation}
use Rattle.aug_monoid.specs.declared.pair64.Pair64.{Pair64}
use Rattle.aug_monoid.specs.Exact.{pair64_cmp, pair64_exact}
use Rattle.map_model.specs.Entries.{AllAbove, IsIncreasing}
use Rattle.map_model.proofs.Keys.{by_order, lesser}
use Rattle.map_model.proofs.Operations.{build-is}
use Rattle.map_model.proofs.Sorted.{IsIncreasing-from_adjacent, lookup-stable}
use Rattle.range_tree.specs.Places.{swapped, least_at, pair64_total}
use Rattle.range_tree.specs.Rows.{AreRows}
use Rattle.range_tree.specs.Totals.{is_eq-swapped}
use Rattle.range_tree.specs.Listings.{swapped_entry, points_of, last_at-swapped, lookup-swapped}

abbrev same_place : Pair64 × ℕ → Pair64 × ℕ → Bool
same_place x y = is_eq (pair64_cmp x.0 y.0)

flips : (x y : Pair64 × ℕ) → same_place x y ≡ same_place y x
flips x y = (eq_by_cmp_equiv pair64_total).symm x.0 y.0

distinct_from : (e : Pair64 × ℕ) (rows : List (Pair64 × ℕ)) → AllAbove pair64_cmp rows e.0 → AllByRecursion (λ y. same_place (swapped_entry e) y ≡ false) (map swapped_entry rows)
distinct_from e [] a = tt
distinct_from e (d ∷ rows) a = (is_eq-swapped e.0 (swapped d.0) ∙ ap is_eq a.0, distinct_from e rows a.1)

distinct_points : (rows : List (Pair64 × ℕ)) → AreRows rows → IsDistinct same_place (map swapped_entry rows)
unfolding IsDistinct
distinct_points [] s = tt
distinct_points (e ∷ rows) s = (distinct_from e rows s.0, distinct_points rows s.1)

distinct_adjacent : (xs : List (Pair64 × ℕ)) → IsDistinct same_place xs → (k : ℕ) (d : Pair64 × ℕ) → suc k < length xs → same_place (get_or xs k d) (get_or xs (suc k) d) ≡ false
unfolding IsDistinct
distinct_adjacent [] s k d h = absurd (omega arith)
distinct_adjacent (x ∷ []) s k d h = absurd (omega arith)
distinct_adjacent (x ∷ y ∷ xs) s zero d h = s.0.0
distinct_adjacent (x ∷ y ∷ xs) s (suc k) d h = distinct_adjacent (y ∷ xs) s.1 k d (omega arith)

less_from_tests : (a b : Pair64) → is_lt (pair64_cmp b a) ≡ false → is_eq (pair64_cmp a b) ≡ false → pair64_cmp a b ≡ Less
less_from_tests a b not_less apart =
    by_order pair64_cmp a b
    (λ less. less)
    (λ equal. let e : is_eq (pair64_cmp a b) ≡ true = ap is_eq equal in (cc))
    (λ more. let e : is_lt (pair64_cmp b a) ≡ true = ap is_lt (lesser pair64_total a b more) in (cc))

module _ (rows sorted : List (Pair64 × ℕ)) (s : AreRows rows) (moved : IsPermutation (map swapped_entry rows) sorted) (up : IsSortedByKey (λ (e : Pair64 × ℕ). e.0) pair64_cmp sorted) where
  sorted_increases : IsIncreasing pair64_cmp sorted
  sorted_increases =
      let d : Pair64 × ℕ = (least_at 0, 0) in
      let apart = IsDistinct-IsPermutation same_place flips (map swapped_entry rows) sorted moved (distinct_points rows s) in
      IsIncreasing-from_adjacent pair64_total sorted d (λ k lt.
      let next : same_place (get_or sorted k d) (get_or sorted (k + 1) d) ≡ false = rw add-one (distinct_adjacent sorted apart k d (omega arith)) in
      less_from_tests (get_or sorted k d).0 (get_or sorted (k + 1) d).0 (up k d (omega arith) lt) next)

  -- a stable sort of the exchanged entries of rows gives their points
  pub sorted-points : IsStableByKey (λ (e : Pair64 × ℕ). e.0) pair64_cmp (map swapped_entry rows) sorted → sorted ≡ points_of rows
  sorted-points stable =
      sym (build-is pair64_total pair64_exact (map swapped_entry rows) sorted sorted_increases (λ q.
      lookup-stable pair64_total (map swapped_entry rows) sorted stable q ∙ lookup-swapped rows q ∙ sym (last_at-swapped rows q s)))
