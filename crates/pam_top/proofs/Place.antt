-- What a search finds among sorted entries, and what an edit at that place does.
use Rattle.std.proofs.Common.{◌≡◌, ◌∙◌, ℕ, suc, ◌+◌, ◌<◌, ◌≤◌, List, length, get_or, set, Some, None, true, false, is_some, inl, inr, nat_lt, ◌==◌, Result, Ok, Err, IfOk, IfErr, refl, sym, ap, arith, drop, take, add-one}
use Rattle.std.specs.List.{insert}
use Rattle.std.specs.List.Sorted.{IsSearchInRange, IsBinarySearchResult, IsNonDecreasingBy}
use Rattle.std.specs.Ordering.{nat_cmp, ordering_index}
use Rattle.std.specs.Cmp.{nat_cmp_total}
use Rattle.std.proofs.lemmas.Bool.{cases_Bool, le-ltb, ltb-true, ltb-false}
use Rattle.std.proofs.lemmas.Cmp.{ranked}
use Rattle.std.proofs.lemmas.List.{get_or_default, set_split}
use Rattle.std.proofs.lemmas.Option.{slice_get-get_or, slice_get_past}
use Rattle.std.proofs.lemmas.List.Sorted.{IsNonDecreasingBy-from_default}
use Rattle.std.proofs.lemmas.Bool.Decides.{nat_tests}
use Rattle.map_model.specs.Entries.{IsIncreasing, above, below, lookup}
use Rattle.map_model.specs.Entries as model
use Rattle.map_model.proofs.NatKeys.{is_lt-nat_cmp, is_eq-nat_cmp, key_lt, less-nat_cmp}
use Rattle.map_model.proofs.Places.{IsPlaceOf, above-drop, below-at_place, lookup-place, rank-at_place}
use Rattle.pam_top.specs.Places.{IsAt, IsGapFor, key_at}

eq-same : (a b : ℕ) → a ≡ b → (a == b) ≡ true
eq-same a b h = grind (arith, nat_tests)

eq-other : (a b : ℕ) → b < a → (a == b) ≡ false
eq-other a b h = grind (arith, nat_tests)

module _ (m : List (ℕ × ℕ)) (sorted : IsIncreasing nat_cmp m) (k : ℕ) where
  keys_rise : (i j : ℕ) → i < j → j < length m → key_at m i < key_at m j
  keys_rise i j lt in_range = key_lt m i j (0, 0) sorted lt in_range

  -- the comparisons with k rise along the list, as a binary search asks
  comparisons_rise : IsNonDecreasingBy (λ entry. ordering_index (nat_cmp entry.0 k)) m
  comparisons_rise = IsNonDecreasingBy-from_default (λ entry. ordering_index (nat_cmp entry.0 k)) m (0, 0) (λ i j le in_range.
      let rise : key_at m i ≤ key_at m j = grind (arith, keys_rise i j, λ (same : i ≡ j). ap (key_at m) same) in
      grind (arith, nat_tests))

  -- a binary search by key ends at the key, or at the gap for it
  pub searched : (r : Result ℕ ℕ) → IsSearchInRange r (length m) → IsBinarySearchResult (λ entry. nat_cmp entry.0 k) m r → record { found : IfOk r (IsAt m k); absent : IfErr r (IsGapFor m k) }
  searched (Ok at) in_range equal = record { found = record { in_range = in_range; has_key = ranked _ k _ (sym (equal (0, 0))) }; absent = tt }
  searched (Err at) in_range parted = record {
    found = tt;
    absent = record {
      in_range = in_range;
      smaller_before = λ j lt. ranked _ k _ (sym ((parted comparisons_rise).0 j (0, 0) (omega arith) lt));
      greater_after = λ j le lt. ranked _ k _ (sym ((parted comparisons_rise).1 j (0, 0) le lt));
    };
  }

module _ (m : List (ℕ × ℕ)) (sorted : IsIncreasing nat_cmp m) (k at : ℕ) (is_at : IsAt m k at) where
  place_of_key : IsPlaceOf nat_cmp m k at
  place_of_key = record {
    in_range = omega (arith, is_at.in_range);
    less_before = λ j d lt. less-nat_cmp (get_or m j d).0 k (omega (arith, key_lt m j at d sorted lt is_at.in_range, here d));
    not_less_after = λ j d le lt. is_lt-nat_cmp (get_or m j d).0 k ∙ le-ltb (get_or m j d).0 k (grind (arith, here d, key_lt m at j d sorted, λ (same : at ≡ j). ap (λ i. (get_or m i d).0) same));
  }
    where
      here : (d : ℕ × ℕ) → (get_or m at d).0 ≡ k
      here d = ap (λ e. e.0) (get_or_default m at d (0, 0) is_at.in_range) ∙ is_at.has_key

  -- the key is found at its place
  pub value_here : lookup nat_cmp m k ≡ Some (get_or m at (0, 0)).1
  value_here =
      lookup-place nat_cmp_total m k sorted
      ∙ rw (rank-at_place (0, 0) m k at place_of_key, slice_get-get_or m at (0, 0) is_at.in_range, is_eq-nat_cmp, eq-same (get_or m at (0, 0)).0 k is_at.has_key) refl

  -- writing over its entry sets its value
  pub set_here : (v : ℕ) → set m at (k, v) ≡ model.set nat_cmp m k v
  set_here v =
      let front : below nat_cmp m k ≡ take at m = below-at_place (0, 0) m k at place_of_key in
      let found : is_some (lookup nat_cmp m k) ≡ true = ap is_some value_here in
      let back : above nat_cmp m k ≡ drop (suc at) m = above-drop nat_cmp_total m k sorted ∙ rw (rank-at_place (0, 0) m k at place_of_key, found, add-one) refl in
      set_split m at (k, v) is_at.in_range ∙ rw (front, back) refl

module _ (m : List (ℕ × ℕ)) (sorted : IsIncreasing nat_cmp m) (k at : ℕ) (gap : IsGapFor m k at) where
  place_of_gap : IsPlaceOf nat_cmp m k at
  place_of_gap = record {
    in_range = gap.in_range;
    less_before = λ j d lt. less-nat_cmp (get_or m j d).0 k (rw (here j d (omega (arith, gap.in_range))) (gap.smaller_before j lt));
    not_less_after = λ j d le lt. is_lt-nat_cmp (get_or m j d).0 k ∙ le-ltb (get_or m j d).0 k (rw (here j d lt) (lesser (gap.greater_after j le lt)));
  }
    where
      lesser : {a b : ℕ} → a < b → a ≤ b
      lesser h = omega arith

      here : (j : ℕ) (d : ℕ × ℕ) → j < length m → (get_or m j d).0 ≡ key_at m j
      here j d lt = ap (λ e. e.0) (get_or_default m j d (0, 0) lt)

  -- a key that has a gap is not found
  pub value_in_gap : lookup nat_cmp m k ≡ None
  value_in_gap =
      lookup-place nat_cmp_total m k sorted ∙ rw (rank-at_place (0, 0) m k at place_of_gap) (elim (cases_Bool (nat_lt at (length m))) [
        | inl within ↦ rw (slice_get-get_or m at (0, 0) (ltb-true at (length m) within), is_eq-nat_cmp, eq-other (get_or m at (0, 0)).0 k (gap.greater_after at (omega arith) (ltb-true at (length m) within))) refl
        | inr past ↦ rw (slice_get_past m at (ltb-false at (length m) past)) refl
      ])

  -- a new entry in the gap sets its value
  pub set_in_gap : (v : ℕ) → insert m at (k, v) ≡ model.set nat_cmp m k v
  set_in_gap v =
      let none_more : at + 0 ≡ at = omega arith in
      let front : below nat_cmp m k ≡ take at m = below-at_place (0, 0) m k at place_of_gap in
      let back : above nat_cmp m k ≡ drop at m = above-drop nat_cmp_total m k sorted ∙ rw (rank-at_place (0, 0) m k at place_of_gap, value_in_gap, none_more) refl in
      rw (front, back) refl
