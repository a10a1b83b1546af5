-- The entries between two bounds stand between two places.
use Rattle.std.proofs.Common.{◌≡◌, ℕ, suc, ◌-◌, Bool, true, false, not, ◌&&◌, cond, List, [], ◌∷◌, length, take, drop, refl, sym, ap, ap₂, ◌∙◌, arith}
use Rattle.std.specs.declared.cmp.Ordering.{Ordering}
use Rattle.std.specs.declared.cmp.Ordering.TheVariants.{Less, Equal, Greater}
use Rattle.std.specs.declared.ops.Bound.{Bound}
use Rattle.std.specs.declared.ops.Bound.TheVariants.{Included, Excluded, Unbounded}
use Rattle.std.specs.BTreeMap.Range.{entries_between, is_from_start, is_past_end}
use Rattle.std.specs.Ordering.{is_le, is_lt, ordering_reverse}
use Rattle.std.specs.Cmp.{IsTotalOrder}
use Rattle.std.specs.List.{filter, slice_range}
use Rattle.std.proofs.lemmas.List.Elements.{filter_agree}
use Rattle.std.proofs.lemmas.Bool.{false≢true}
use Rattle.map_model.specs.Entries.{AllAbove, IsIncreasing, below}
use Rattle.map_model.specs.Parts.{left_of}
use Rattle.map_model.proofs.Filters.{filter-no_keys}
use Rattle.map_model.proofs.Keys.{AllKeys-map, above_alike, below_all}

-- ---- two tests along a list: one that passes from some entry on, and one that fails from some entry on

-- where the test passes, it passes to the end
abbrev Rises : {X : Type 0} → (X → Bool) → List X → Type 0
Rises p [] = Unit {0}
Rises p (x ∷ xs) = (p x ≡ true → filter (λ y. not (p y)) xs ≡ []) × Rises p xs

-- where the test fails, it fails to the end
abbrev Falls : {X : Type 0} → (X → Bool) → List X → Type 0
Falls q [] = Unit {0}
Falls q (x ∷ xs) = (q x ≡ false → filter q xs ≡ []) × Falls q xs

module _ {X : Type 0} (p q : X → Bool) where
  between_places : (xs : List X) → Rises p xs → Falls q xs → filter (λ x. p x && q x) xs ≡ slice_range xs (length (filter (λ x. not (p x)) xs)) (length (filter q xs))
  between_places [] rises falls = refl
  between_places (x ∷ xs) rises falls =
      let more = between_places xs rises.1 falls.1 in
      elim (p x) as (λ s. p x ≡ s → filter (λ x. p x && q x) (x ∷ xs) ≡ slice_range (x ∷ xs) (length (filter (λ x. not (p x)) (x ∷ xs))) (length (filter q (x ∷ xs)))) [
        | true ↦ λ passes. elim (q x) as (λ t. q x ≡ t → filter (λ x. p x && q x) (x ∷ xs) ≡ slice_range (x ∷ xs) (length (filter (λ x. not (p x)) (x ∷ xs))) (length (filter q (x ∷ xs)))) [
          | true ↦ λ inside.
              let upto = length (filter q xs) in
              let same : suc (upto - 0) ≡ suc upto - 0 = omega arith in
              rw (passes, inside, rises.0 passes) (ap (λ l. x ∷ l) (more ∙ ap (λ l. slice_range xs (length l) upto) (rises.0 passes)) ∙ ap (λ n. take n (x ∷ xs)) same)
          | false ↦ λ past. rw (passes, past, rises.0 passes, falls.0 past) (more ∙ ap₂ (λ l m. slice_range xs (length l) (length m)) (rises.0 passes) (falls.0 past))
        ] refl
        | false ↦ λ fails. elim (q x) as (λ t. q x ≡ t → filter (λ x. p x && q x) (x ∷ xs) ≡ slice_range (x ∷ xs) (length (filter (λ x. not (p x)) (x ∷ xs))) (length (filter q (x ∷ xs)))) [
          | true ↦ λ inside.
              let before = length (filter (λ x. not (p x)) xs) in
              let upto = length (filter q xs) in
              let same : upto - before ≡ suc upto - suc before = omega arith in
              rw (fails, inside) (more ∙ ap (λ n. take n (drop before xs)) same)
          | false ↦ λ past.
              let before = length (filter (λ x. not (p x)) xs) in
              let none : 0 - before ≡ 0 - suc before = omega arith in
              rw (fails, past, falls.0 past) (more ∙ ap (λ l. slice_range xs before (length l)) (falls.0 past) ∙ ap (λ n. take n (drop before xs)) none)
        ] refl
      ] refl

-- ---- the tests of two bounds

le_from_lt : (o : Ordering) → is_lt o ≡ true → is_le o ≡ true
le_from_lt Less h = refl
le_from_lt Equal h = absurd (false≢true h)
le_from_lt Greater h = absurd (false≢true h)

true_from_not : (t : Bool) → not t ≡ false → t ≡ true
true_from_not true h = refl
true_from_not false h = sym h

not-le : (o : Ordering) → not (is_le o) ≡ is_lt (ordering_reverse o)
not-le Less = refl
not-le Equal = refl
not-le Greater = refl

not-lt : (o : Ordering) → not (is_lt o) ≡ is_le (ordering_reverse o)
not-lt Less = refl
not-lt Equal = refl
not-lt Greater = refl

-- a test that all pass
pub all_pass : {X : Type 0} (xs : List X) → filter (λ x. true) xs ≡ xs
all_pass [] = refl
all_pass (x ∷ xs) = ap (λ l. x ∷ l) (all_pass xs)

pub none_passes : {X : Type 0} (xs : List X) → filter (λ x. false) xs ≡ []
none_passes [] = refl
none_passes (x ∷ xs) = none_passes xs

module _ {K V : Type 0} {order : K → K → Ordering} (total : IsTotalOrder order) where
  -- keys above one that is not less than a are above a
  above_from : (a : K) (e : K × V) (m : List (K × V)) → AllAbove order m e.0 → is_le (order a e.0) ≡ true → AllAbove order m a
  above_from a e m s le =
      elim (order a e.0) as (λ o. order a e.0 ≡ o → is_le o ≡ true → AllAbove order m a) [
        | Less ↦ λ is _. below_all total a e.0 m is s
        | Equal ↦ λ is _. above_alike total e.0 a m (total.antisymm e.0 a ∙ ap ordering_reverse is) s
        | Greater ↦ λ _ no. absurd (false≢true no)
      ] refl le

  -- a test of the order that fails at greater keys finds none of them
  none_above : (t : Ordering → Bool) → t Less ≡ false → (a : K) (m : List (K × V)) → AllAbove order m a → filter (λ e. t (order a e.0)) m ≡ []
  none_above t fails a m s = filter-no_keys (λ k. t (order a k)) m (AllKeys-map (λ k. order a k ≡ Less) (λ k. t (order a k) ≡ false) (λ k h. ap t h ∙ fails) m s)

  start_rises : (lo : Bound K) (m : List (K × V)) → IsIncreasing order m → Rises (λ e. is_from_start order lo e.0) m
  start_rises lo [] s = tt
  start_rises (Included a) (e ∷ m) s = (λ h. none_above (λ o. not (is_le o)) refl a m (above_from a e m s.0 h), start_rises (Included a) m s.1)
  start_rises (Excluded a) (e ∷ m) s = (λ h. none_above (λ o. not (is_lt o)) refl a m (above_from a e m s.0 (le_from_lt (order a e.0) h)), start_rises (Excluded a) m s.1)
  start_rises Unbounded (e ∷ m) s = (λ h. none_passes m, start_rises Unbounded m s.1)

  end_falls : (hi : Bound K) (m : List (K × V)) → IsIncreasing order m → Falls (λ e. not (is_past_end order hi e.0)) m
  end_falls hi [] s = tt
  end_falls (Included b) (e ∷ m) s = (λ h. none_above (λ o. not (is_lt o)) refl b m (above_from b e m s.0 (le_from_lt (order b e.0) (true_from_not (is_lt (order b e.0)) h))), end_falls (Included b) m s.1)
  end_falls (Excluded b) (e ∷ m) s = (λ h. none_above (λ o. not (is_le o)) refl b m (above_from b e m s.0 (true_from_not (is_le (order b e.0)) h)), end_falls (Excluded b) m s.1)
  end_falls Unbounded (e ∷ m) s = (λ h. absurd (false≢true (sym h)), end_falls Unbounded m s.1)

  -- the entries between two bounds stand from the place of the first to the place of the second
  pub between : (lo hi : Bound K) (m : List (K × V)) (i j : ℕ) → IsIncreasing order m → i ≡ length (filter (λ e. not (is_from_start order lo e.0)) m) → j ≡ length (filter (λ e. not (is_past_end order hi e.0)) m) → slice_range m i j ≡ entries_between order lo hi m
  between lo hi m i j s from to =
      ap₂ (slice_range m) from to ∙ sym (between_places (λ e. is_from_start order lo e.0) (λ e. not (is_past_end order hi e.0)) m (start_rises lo m s) (end_falls hi m s))

  -- entries that are not behind a key, or not before it
  pub not_from : (a : K) (m : List (K × V)) → filter (λ e. not (is_le (order a e.0))) m ≡ below order m a
  not_from a m = filter_agree (λ e. not (is_le (order a e.0))) (λ e. is_lt (order e.0 a)) (λ e. not-le (order a e.0) ∙ ap is_lt (sym (total.antisymm e.0 a))) m

  pub not_behind : (a : K) (m : List (K × V)) → filter (λ e. not (is_lt (order a e.0))) m ≡ left_of order m a
  not_behind a m = filter_agree (λ e. not (is_lt (order a e.0))) (λ e. is_le (order e.0 a)) (λ e. not-lt (order a e.0) ∙ ap is_le (sym (total.antisymm e.0 a))) m
