-- The intervals of a map, from its entries.
use Rattle.std.proofs.Common.{◌≡◌, Bool, true, false, cond, List, [], ◌∷◌, ◌++◌, refl, ap, ap₂, ◌∙◌}
use Rattle.std.specs.Prelude.{Result, Ok, Err, OnOk, OnErr}
use Rattle.std.proofs.lemmas.List.{map-append}
use Rattle.std.specs.List.{AllByRecursion, filter}
use Rattle.std.specs.Map.{keys_of}
use Rattle.std.specs.Ordering.{is_gt, is_lt, is_ne}
use Rattle.aug_monoid.specs.Exact.{pair64_cmp}
use Rattle.aug_monoid.specs.declared.pair64.Pair64.{Pair64}
use Rattle.map_model.specs.Entries.{IsIncreasing, drop_key, set}
use Rattle.map_model.proofs.Sorted.{ordered_from_IsIncreasing}
use Rattle.interval_map.specs.Intervals.{IsInterval, IsIntervals, with_interval, without_interval}

-- what holds after success and after a refusal
pub by_outcome : {A B E F P : Type 0} (r : Result A B) → OnOk r E → OnErr r F → (E → P) → (F → P) → P
by_outcome (Ok _) e f done refused = done e
by_outcome (Err _) e f done refused = refused f

module _ {V : Type 0} where
  -- the keys of the entries whose keys pass a test
  pub keys-filter : (p : Pair64 → Bool) (m : List (Pair64 × V)) → keys_of (filter (λ e. p e.0) m) ≡ filter p (keys_of m)
  keys-filter p [] = refl
  keys-filter p (e ∷ m) = elim (p e.0) as (λ b. keys_of (cond b (e ∷ filter (λ d. p d.0) m) (filter (λ d. p d.0) m)) ≡ cond b (e.0 ∷ filter p (keys_of m)) (filter p (keys_of m))) [
    | true ↦ ap (λ is. e.0 ∷ is) (keys-filter p m)
    | false ↦ keys-filter p m
  ]

  pub keys-set : (m : List (Pair64 × V)) (i : Pair64) (v : V) → keys_of (set pair64_cmp m i v) ≡ with_interval (keys_of m) i
  keys-set m i v =
      map-append (λ (e : Pair64 × V). e.0) (filter (λ e. is_lt (pair64_cmp e.0 i)) m) ((i, v) ∷ filter (λ e. is_gt (pair64_cmp e.0 i)) m)
      ∙ ap₂ (λ l r. l ++ i ∷ r) (keys-filter (λ j. is_lt (pair64_cmp j i)) m) (keys-filter (λ j. is_gt (pair64_cmp j i)) m)

  pub keys-drop_key : (m : List (Pair64 × V)) (i : Pair64) → keys_of (drop_key pair64_cmp m i) ≡ without_interval (keys_of m) i
  keys-drop_key m i = keys-filter (λ j. is_ne (pair64_cmp j i)) m

  -- a map of intervals has them in order
  pub keys_are : (m : List (Pair64 × V)) → IsIncreasing pair64_cmp m → AllByRecursion IsInterval (keys_of m) → IsIntervals (keys_of m)
  keys_are m s a = record { increasing = ordered_from_IsIncreasing pair64_cmp m s; ends = a }

-- ---- intervals stay intervals

pub all_filter : (P : Pair64 → Type 0) (p : Pair64 → Bool) (is : List Pair64) → AllByRecursion P is → AllByRecursion P (filter p is)
all_filter P p [] a = tt
all_filter P p (i ∷ is) a = elim (p i) as (λ b. AllByRecursion P (cond b (i ∷ filter p is) (filter p is))) [
  | true ↦ (a.0, all_filter P p is a.1)
  | false ↦ all_filter P p is a.1
]

all_append : (P : Pair64 → Type 0) (is js : List Pair64) → AllByRecursion P is → AllByRecursion P js → AllByRecursion P (is ++ js)
all_append P [] js a b = b
all_append P (i ∷ is) js a b = (a.0, all_append P is js a.1 b)

pub with_ends : (is : List Pair64) (i : Pair64) → AllByRecursion IsInterval is → IsInterval i → AllByRecursion IsInterval (with_interval is i)
with_ends is i a h =
    let l : AllByRecursion IsInterval (filter (λ j. is_lt (pair64_cmp j i)) is) = all_filter IsInterval (λ j. is_lt (pair64_cmp j i)) is a in
    let r : AllByRecursion IsInterval (filter (λ j. is_gt (pair64_cmp j i)) is) = all_filter IsInterval (λ j. is_gt (pair64_cmp j i)) is a in
    all_append IsInterval (filter (λ j. is_lt (pair64_cmp j i)) is) (i ∷ filter (λ j. is_gt (pair64_cmp j i)) is) l (h, r)

pub without_ends : (is : List Pair64) (i : Pair64) → AllByRecursion IsInterval is → AllByRecursion IsInterval (without_interval is i)
without_ends is i a = all_filter IsInterval (λ j. is_ne (pair64_cmp j i)) is a
