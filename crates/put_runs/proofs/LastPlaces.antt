-- The last place of each key, from places that are sorted by their keys, has the value that stays.
use Rattle.std.proofs.Common.{◌≡◌, ℕ, suc, ◌+◌, ◌<◌, ◌≤◌, Bool, true, false, cond, not, ◌&&◌, ◌==◌, List, [], ◌∷◌, length, get_or, Option, Some, None, refl, sym, ap, ◌∙◌, arith}
use Rattle.std.specs.List.{filter}
use Rattle.std.specs.List.Sorted.{IsSortedByKey, IsStableByKey, ties}
use Rattle.std.specs.Option.{option_map, option_or}
use Rattle.std.specs.Ordering.{is_eq, is_lt, nat_cmp, ordering_reverse}
use Rattle.std.specs.Cmp.{nat_cmp_total}
use Rattle.std.specs.declared.cmp.Ordering.TheVariants.{Less, Equal, Greater}
use Rattle.std.proofs.lemmas.Bool.Decides.{nat_tests}
use Rattle.std.proofs.lemmas.List.Elements.{filter_agree}
use native.Mathlib.Numerals.{unary_clauses}
use Rattle.map_model.specs.Entries.{AllAbove, AllKeys, IsIncreasing, lookup}
use Rattle.map_model.specs.Operations.{after, last_at, puts}
use Rattle.map_model.specs.SetOperations.{union}
use Rattle.map_model.proofs.Keys.{AllKeys-map}
use Rattle.map_model.proofs.Lookups.{lookup-all_greater, option_or-none}
use Rattle.map_model.proofs.NatKeys.{less-nat_cmp, nat_exact}
use Rattle.map_model.proofs.Operations.{after_puts-union, last_at-cons}
use Rattle.put_runs.specs.Places.{AreLasts, begins_with, last_of_each, placed, valued}

-- ---- from std's word

-- each key is at most those behind it
abbrev Ascends : List (ℕ × ℕ) → Type 0
Ascends [] = Unit {0}
Ascends (e ∷ m) = AllKeys (λ k. e.0 ≤ k) m × Ascends m

sorted_behind : (e : ℕ × ℕ) (m : List (ℕ × ℕ)) → IsSortedByKey (λ (x : ℕ × ℕ). x.0) nat_cmp (e ∷ m) → IsSortedByKey (λ (x : ℕ × ℕ). x.0) nat_cmp m
sorted_behind e m s i d low in_range = simp unary_clauses (simp unary_clauses at (s (i + 1) d (omega arith) (omega arith)))

at_least : (e : ℕ × ℕ) (m : List (ℕ × ℕ)) → IsSortedByKey (λ (x : ℕ × ℕ). x.0) nat_cmp (e ∷ m) → (k : ℕ) → k ≤ e.0 → AllKeys (λ a. k ≤ a) m
at_least e [] s k h = tt
at_least e (x ∷ m) s k h =
    let test : is_lt (nat_cmp x.0 e.0) ≡ false = s 0 e (omega arith) (omega arith) in
    let first : e.0 ≤ x.0 = not_less x.0 e.0 test in
    (omega arith, at_least x m (sorted_behind e (x ∷ m) s) k (omega arith))
  where
    not_less : (a b : ℕ) → is_lt (nat_cmp a b) ≡ false → b ≤ a
    not_less a b h = grind (arith, nat_tests)

Ascends-from_sorted : (m : List (ℕ × ℕ)) → IsSortedByKey (λ (x : ℕ × ℕ). x.0) nat_cmp m → Ascends m
Ascends-from_sorted [] s = tt
Ascends-from_sorted (e ∷ m) s = (at_least e m s e.0 (omega arith), Ascends-from_sorted m (sorted_behind e m s))

-- ---- the last of each key

greater : (a b : ℕ) → (a == b) ≡ false → b ≤ a → b < a
greater a b h le = grind (arith, nat_tests)

same_key : (a b : ℕ) → (a == b) ≡ true → a ≡ b
same_key a b h = grind (arith, nat_tests)

equal_from : (a b : ℕ) → is_eq (nat_cmp a b) ≡ true → a ≡ b
equal_from a b h = grind (arith, nat_tests)

-- behind the last entry of a key all keys are greater
all_greater : (e : ℕ × ℕ) (m : List (ℕ × ℕ)) → Ascends (e ∷ m) → begins_with m e.0 ≡ false → AllKeys (λ k. e.0 < k) m
all_greater e [] up last = tt
all_greater e (x ∷ m) up last =
    let less : e.0 < x.0 = greater x.0 e.0 last up.0.0 in
    (less, AllKeys-map (λ k. x.0 ≤ k) (λ k. e.0 < k) (λ k h. omega arith) m up.1.0)

above-lasts : (low : ℕ) (m : List (ℕ × ℕ)) → AllKeys (λ k. low < k) m → AllAbove nat_cmp (last_of_each m) low
above-lasts low [] all = tt
above-lasts low (e ∷ m) all = elim (begins_with m e.0) as (λ b. AllAbove nat_cmp (cond b (last_of_each m) (e ∷ last_of_each m)) low) [ true ↦ above-lasts low m all.1 | false ↦ (less-nat_cmp low e.0 all.0, above-lasts low m all.1) ]

IsIncreasing-lasts : (m : List (ℕ × ℕ)) → Ascends m → IsIncreasing nat_cmp (last_of_each m)
IsIncreasing-lasts [] up = tt
IsIncreasing-lasts (e ∷ m) up = elim (begins_with m e.0) as (λ b. begins_with m e.0 ≡ b → IsIncreasing nat_cmp (cond b (last_of_each m) (e ∷ last_of_each m))) [
  | true ↦ λ _. IsIncreasing-lasts m up.1
  | false ↦ λ last. (above-lasts e.0 m (all_greater e m up last), IsIncreasing-lasts m up.1)
] refl

-- a key that comes again decides without its entry before
comes_again : (e : ℕ × ℕ) (m : List (ℕ × ℕ)) (q : ℕ) → begins_with m e.0 ≡ true → option_or (last_at nat_cmp m q) (cond (is_eq (nat_cmp e.0 q)) (Some e.1) None) ≡ last_at nat_cmp m q
comes_again e [] q again = cc
comes_again e (x ∷ m) q again =
    ap (λ k. option_or (last_at nat_cmp (x ∷ m) q) (cond (is_eq (nat_cmp k q)) (Some e.1) None)) (sym (same_key x.0 e.0 again))
    ∙ ap (λ o. option_or o (cond (is_eq (nat_cmp x.0 q)) (Some e.1) None)) (last_at-cons nat_cmp x m q)
    ∙ decides (last_at nat_cmp m q) (is_eq (nat_cmp x.0 q))
    ∙ sym (last_at-cons nat_cmp x m q)
  where
    decides : (o : Option ℕ) (b : Bool) → option_or (option_or o (cond b (Some x.1) None)) (cond b (Some e.1) None) ≡ option_or o (cond b (Some x.1) None)
    decides None true = refl
    decides None false = refl
    decides (Some v) b = refl

lookup-lasts : (m : List (ℕ × ℕ)) (q : ℕ) → Ascends m → lookup nat_cmp (last_of_each m) q ≡ last_at nat_cmp m q
lookup-lasts [] q up = refl
lookup-lasts (e ∷ m) q up =
    let rest : lookup nat_cmp (last_of_each m) q ≡ last_at nat_cmp m q = lookup-lasts m q up.1 in
    elim (begins_with m e.0) as (λ b. begins_with m e.0 ≡ b → lookup nat_cmp (cond b (last_of_each m) (e ∷ last_of_each m)) q ≡ option_or (last_at nat_cmp m q) (cond (is_eq (nat_cmp e.0 q)) (Some e.1) None)) [
      | true ↦ λ again. rest ∙ sym (comes_again e m q again)
      | false ↦ λ last. elim (is_eq (nat_cmp e.0 q)) as (λ b. is_eq (nat_cmp e.0 q) ≡ b → cond b (Some e.1) (lookup nat_cmp (last_of_each m) q) ≡ option_or (last_at nat_cmp m q) (cond b (Some e.1) None)) [
        | true ↦ λ here.
            let none : lookup nat_cmp (last_of_each m) e.0 ≡ None = lookup-all_greater nat_cmp_total (last_of_each m) e.0 (above-lasts e.0 m (all_greater e m up last)) in
            ap (λ o. option_or o (Some e.1)) (sym none ∙ ap (lookup nat_cmp (last_of_each m)) (equal_from e.0 q here) ∙ rest)
        | false ↦ λ _. rest ∙ sym (option_or-none (last_at nat_cmp m q))
      ] refl
    ] refl
    ∙ sym (last_at-cons nat_cmp e m q)

-- ---- a stable sort keeps the last of each key

last_at-there : (m : List (ℕ × ℕ)) (q : ℕ) → last_at nat_cmp m q ≡ last_at nat_cmp (filter (λ e. is_eq (nat_cmp e.0 q)) m) q
last_at-there [] q = refl
last_at-there (e ∷ m) q =
    let there : List (ℕ × ℕ) = filter (λ d. is_eq (nat_cmp d.0 q)) m in
    last_at-cons nat_cmp e m q
    ∙ ap (λ o. option_or o (cond (is_eq (nat_cmp e.0 q)) (Some e.1) None)) (last_at-there m q)
    ∙ elim (is_eq (nat_cmp e.0 q)) as (λ b. is_eq (nat_cmp e.0 q) ≡ b → option_or (last_at nat_cmp there q) (cond b (Some e.1) None) ≡ last_at nat_cmp (cond b (e ∷ there) there) q) [
      | true ↦ λ here. ap (λ b. option_or (last_at nat_cmp there q) (cond b (Some e.1) None)) (sym here) ∙ sym (last_at-cons nat_cmp e there q)
      | false ↦ λ _. option_or-none (last_at nat_cmp there q)
    ] refl

tie_is_equal : (q k : ℕ) → (not (is_lt (nat_cmp q k)) && not (is_lt (nat_cmp k q))) ≡ is_eq (nat_cmp k q)
tie_is_equal q k = ap (λ o. not (is_lt o) && not (is_lt (nat_cmp k q))) (nat_cmp_total.antisymm q k) ∙ elim (nat_cmp k q) as (λ o. (not (is_lt (ordering_reverse o)) && not (is_lt o)) ≡ is_eq o) [ Less ↦ refl | Equal ↦ refl | Greater ↦ refl ]

last_at-stable : (m sorted : List (ℕ × ℕ)) (q : ℕ) → IsStableByKey (λ (e : ℕ × ℕ). e.0) nat_cmp m sorted → last_at nat_cmp sorted q ≡ last_at nat_cmp m q
last_at-stable m sorted q stable =
    let test : ℕ × ℕ → Bool = λ e. is_eq (nat_cmp e.0 q) in
    let tie : ℕ × ℕ → Bool = ties (λ (x y : ℕ × ℕ). is_lt (nat_cmp x.0 y.0)) (q, 0) in
    let agree : (xs : List (ℕ × ℕ)) → filter tie xs ≡ filter test xs = λ xs. filter_agree tie test (λ e. tie_is_equal q e.0) xs in
    last_at-there sorted q
    ∙ ap (λ xs. last_at nat_cmp xs q) (sym (agree sorted) ∙ stable (q, 0) ∙ agree m)
    ∙ sym (last_at-there m q)

-- ---- the values at the places

lookup-valued : (entries places : List (ℕ × ℕ)) (q : ℕ) → lookup nat_cmp (valued entries places) q ≡ option_map (λ i. (get_or entries i (0, 0)).1) (lookup nat_cmp places q)
lookup-valued entries [] q = refl
lookup-valued entries (e ∷ places) q =
    elim (is_eq (nat_cmp e.0 q)) as (λ b. cond b (Some (get_or entries e.1 (0, 0)).1) (lookup nat_cmp (valued entries places) q) ≡ option_map (λ i. (get_or entries i (0, 0)).1) (cond b (Some e.1) (lookup nat_cmp places q))) [ true ↦ refl | false ↦ lookup-valued entries places q ]

AllKeys-valued : (P : ℕ → Type 0) (entries places : List (ℕ × ℕ)) → AllKeys P places → AllKeys P (valued entries places)
AllKeys-valued P entries [] all = tt
AllKeys-valued P entries (e ∷ places) all = (all.0, AllKeys-valued P entries places all.1)

IsIncreasing-valued : (entries places : List (ℕ × ℕ)) → IsIncreasing nat_cmp places → IsIncreasing nat_cmp (valued entries places)
IsIncreasing-valued entries [] s = tt
IsIncreasing-valued entries (e ∷ places) s = (AllKeys-valued (λ k. nat_cmp e.0 k ≡ Less) entries places s.0, IsIncreasing-valued entries places s.1)

valued-last : (f : ℕ → ℕ) (entries : List (ℕ × ℕ)) (i q : ℕ) → ((j n : ℕ) → j < length entries → n ≡ i + j → f n ≡ (get_or entries j (0, 0)).1) → option_map f (last_at nat_cmp (placed i entries) q) ≡ last_at nat_cmp entries q
valued-last f [] i q at = refl
valued-last f (e ∷ entries) i q at =
    let rest : option_map f (last_at nat_cmp (placed (i + 1) entries) q) ≡ last_at nat_cmp entries q = valued-last f entries (i + 1) q (λ j n h is. at (suc j) n (omega arith) (omega arith)) in
    let here : f i ≡ e.1 = at 0 i (omega arith) (omega arith) in
    ap (option_map f) (last_at-cons nat_cmp (e.0, i) (placed (i + 1) entries) q)
    ∙ over (last_at nat_cmp (placed (i + 1) entries) q) (is_eq (nat_cmp e.0 q)) here
    ∙ ap (λ o. option_or o (cond (is_eq (nat_cmp e.0 q)) (Some e.1) None)) rest
    ∙ sym (last_at-cons nat_cmp e entries q)
  where
    over : (o : Option ℕ) (b : Bool) → f i ≡ e.1 → option_map f (option_or o (cond b (Some i) None)) ≡ option_or (option_map f o) (cond b (Some e.1) None)
    over None true is = ap Some is
    over None false is = refl
    over (Some v) b is = refl

-- ---- all

pub lasts_are : (entries sorted : List (ℕ × ℕ)) → IsSortedByKey (λ (e : ℕ × ℕ). e.0) nat_cmp sorted → IsStableByKey (λ (e : ℕ × ℕ). e.0) nat_cmp (placed 0 entries) sorted → AreLasts entries (valued entries (last_of_each sorted))
lasts_are entries sorted up stable = record {
  rise = IsIncreasing-valued entries (last_of_each sorted) (IsIncreasing-lasts sorted (Ascends-from_sorted sorted up));
  found = λ q.
      lookup-valued entries (last_of_each sorted) q
      ∙ ap (option_map (λ i. (get_or entries i (0, 0)).1)) (lookup-lasts sorted q (Ascends-from_sorted sorted up) ∙ last_at-stable (placed 0 entries) sorted q stable)
      ∙ valued-last (λ i. (get_or entries i (0, 0)).1) entries 0 q (λ j n h is. ap (λ k. (get_or entries k (0, 0)).1) {x = n} {y = j} (omega arith));
}

pub union-lasts : (entries lasts m : List (ℕ × ℕ)) → IsIncreasing nat_cmp m → AreLasts entries lasts → union nat_cmp (λ v w. w) m lasts ≡ after nat_cmp m (puts entries)
union-lasts entries lasts m s are = sym (after_puts-union nat_cmp_total nat_exact entries lasts m s are.rise are.found)
