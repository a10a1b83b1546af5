-- Intervals that are listed in another order, and numbers that stand for them.
use Rattle.std.proofs.Common.{◌≡◌, ℕ, ◌<◌, ◌^◌, ◌||◌, Bool, true, false, cond, List, [], ◌∷◌, ◌++◌, map, Some, None, refl, sym, ap, ap₂, ◌∙◌}
use Rattle.std.proofs.lemmas.List.Sorted.{IsPermutation-map, list_any-IsPermutation}
use Rattle.std.proofs.lemmas.Nat.{div-mul-add, mod-mul-add}
use Rattle.std.specs.List.{AllByRecursion, list_any}
use Rattle.std.specs.List.Sorted.{IsPermutation}
use Rattle.std.specs.Map.{keys_of}
use Rattle.std.specs.Option.{option_or}
use Rattle.std.specs.Ordering.{is_eq}
use Rattle.aug_monoid.specs.Exact.{pair64_cmp, pair64_exact}
use Rattle.aug_monoid.specs.declared.pair64.Pair64.{Pair64}
use Rattle.map_model.specs.Entries.{lookup}
use Rattle.map_model.specs.Operations.{build, last_at}
use Rattle.map_model.proofs.Lookups.{option_or-none}
use Rattle.map_model.proofs.Operations.{IsIncreasing-build, build-is, last_at-cons, lookup-build}
use Rattle.interval_map.specs.Intervals.{IsInterval, interval, with_interval, with_intervals}
use Rattle.interval_map.specs.Numbers.{interval_of, number_of}
use Rattle.interval_map.proofs.Sets.{keys-puts, pair64_total}

abbrev Entry : Type 0
Entry = Pair64 × Unit {0}

-- ---- an interval without a value is there or is not

-- the last one in a list is as good as the first
last-interval : (m : List Entry) (i : Pair64) → last_at pair64_cmp m i ≡ lookup pair64_cmp m i
last-interval [] i = refl
last-interval (e ∷ m) i =
    last_at-cons pair64_cmp e m i
    ∙ ap (λ o. option_or o (cond (is_eq (pair64_cmp e.0 i)) (Some e.1) None)) (last-interval m i)
    ∙ elim (is_eq (pair64_cmp e.0 i)) as (λ b. option_or (lookup pair64_cmp m i) (cond b (Some e.1) None) ≡ cond b (Some e.1) (lookup pair64_cmp m i)) [
      | true ↦ elim (lookup pair64_cmp m i) as (λ o. option_or o (Some e.1) ≡ Some e.1) [ None ↦ refl | Some x ↦ refl ]
      | false ↦ option_or-none (lookup pair64_cmp m i)
    ]

lookup-any : (m : List Entry) (i : Pair64) → lookup pair64_cmp m i ≡ cond (list_any (λ e. is_eq (pair64_cmp e.0 i)) m) (Some tt) None
lookup-any [] i = refl
lookup-any (e ∷ m) i =
    ap (λ o. cond (is_eq (pair64_cmp e.0 i)) (Some e.1) o) (lookup-any m i)
    ∙ elim (is_eq (pair64_cmp e.0 i)) as (λ b. cond b (Some e.1) (cond (list_any (λ x. is_eq (pair64_cmp x.0 i)) m) (Some tt) None) ≡ cond (b || list_any (λ x. is_eq (pair64_cmp x.0 i)) m) (Some tt) None) [ true ↦ refl | false ↦ refl ]

last-same : (m n : List Entry) → IsPermutation m n → (i : Pair64) → last_at pair64_cmp n i ≡ last_at pair64_cmp m i
last-same m n same i =
    last-interval n i
    ∙ lookup-any n i
    ∙ ap (λ b. cond b (Some tt) None) (sym (list_any-IsPermutation (λ (e : Entry). is_eq (pair64_cmp e.0 i)) m n same))
    ∙ sym (lookup-any m i)
    ∙ sym (last-interval m i)

-- so intervals in another order make the same set
build-same : (m n : List Entry) → IsPermutation m n → build pair64_cmp m ≡ build pair64_cmp n
build-same m n same = build-is pair64_total pair64_exact m (build pair64_cmp n) (IsIncreasing-build pair64_total n) (λ i.
    lookup-build pair64_total pair64_exact n i ∙ last-same m n same i)

-- ---- numbers that stand for intervals

abbrev entry_of : ℕ → Entry
entry_of number = (interval_of number, tt)

abbrev listed : Pair64 → Entry
listed i = (i, tt)

number-stands : (i : Pair64) → IsInterval i → interval_of (number_of i) ≡ i
number-stands i is = ap₂ interval (div-mul-add i.first (2 ^ 64) i.second is.1) (mod-mul-add i.first (2 ^ 64) i.second is.1)

numbers-stand : (is : List Pair64) → AllByRecursion IsInterval is → map entry_of (map number_of is) ≡ map listed is
numbers-stand [] all = refl
numbers-stand (i ∷ is) all = ap₂ (λ j es. (j, tt) ∷ es) (number-stands i all.0) (numbers-stand is all.1)

keys-listed : (is : List Pair64) → keys_of (map listed is) ≡ is
keys-listed [] = refl
keys-listed (i ∷ is) = ap (λ js. i ∷ js) (keys-listed is)

keys-stand : (numbers : List ℕ) → keys_of (map entry_of numbers) ≡ map interval_of numbers
keys-stand [] = refl
keys-stand (n ∷ numbers) = ap (λ is. interval_of n ∷ is) (keys-stand numbers)

-- the set of the intervals that numbers stand for, in whatever order these come
pub numbers-set : (is : List Pair64) (numbers : List ℕ) → AllByRecursion IsInterval is → IsPermutation (map number_of is) numbers → with_intervals [] (map interval_of numbers) ≡ with_intervals [] is
numbers-set is numbers all same =
    let made : build pair64_cmp (map entry_of numbers) ≡ build pair64_cmp (map listed is) =
    sym (build-same (map entry_of (map number_of is)) (map entry_of numbers) (IsPermutation-map entry_of (map number_of is) numbers same))
    ∙ ap (build pair64_cmp) (numbers-stand is all) in
    sym (keys-puts [] (map entry_of numbers) ∙ ap (with_intervals []) (keys-stand numbers))
    ∙ ap keys_of made
    ∙ keys-puts [] (map listed is)
    ∙ ap (with_intervals []) (keys-listed is)

-- some more, and then others
pub with-more : (is : List Pair64) (numbers others : List ℕ) → with_intervals (with_intervals is (map interval_of numbers)) (map interval_of others) ≡ with_intervals is (map interval_of (numbers ++ others))
with-more is [] others = refl
with-more is (n ∷ numbers) others = with-more (with_interval is (interval_of n)) numbers others
