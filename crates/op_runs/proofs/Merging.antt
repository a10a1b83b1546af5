-- Changes in the order of their keys, those of one key made one.
use Rattle.std.proofs.Common.{◌≡◌, ℕ, ◌+◌, ◌<◌, ◌≤◌, Bool, true, false, cond, ◌==◌, ◌||◌, List, [], ◌∷◌, Option, Some, None, unwrap_or, refl, sym, ap, ◌∙◌, arith}
use Rattle.std.specs.Prelude.{fold, is_some}
use Rattle.std.specs.List.{list_any}
use Rattle.std.specs.List.Sorted.{IsSortedByKey}
use Rattle.std.specs.Ordering.{nat_cmp, is_eq, is_lt}
use native.Mathlib.Numerals.{unary_clauses}
use Rattle.std.proofs.lemmas.Bool.Decides.{nat_tests}
use Rattle.map_model.specs.Entries.{AllAbove, AllKeys, IsIncreasing, lookup}
use Rattle.map_model.proofs.Keys.{AllKeys-map}
use Rattle.map_model.proofs.NatKeys.{less-nat_cmp}
use Rattle.op_runs.specs.declared.outcome.Outcome.{Outcome}
use Rattle.op_runs.specs.declared.outcome.Outcome.TheVariants.{Nothing}
use Rattle.op_runs.specs.Outcomes.{followed_by}
use Rattle.op_runs.specs.Runs.{IsComposed}
use Rattle.op_runs.specs.Steps.{changes_key}
use Rattle.op_runs.proofs.OutcomeLaws.{Nothing-followed_by}

abbrev pub Changes : Type 0
Changes = List (ℕ × Outcome)

-- an outcome of a key, and the changes behind it
abbrev pub merged_from : ℕ → Outcome → Changes → Changes
merged_from key outcome [] = (key, outcome) ∷ []
merged_from key outcome (e ∷ changes) = cond (e.0 == key) (merged_from key (followed_by outcome e.1) changes) ((key, outcome) ∷ merged_from e.0 e.1 changes)

-- each change's key is at most those of later ones
abbrev pub Ascends : Changes → Type 0
Ascends [] = Unit {0}
Ascends (e ∷ changes) = AllKeys (λ k. e.0 ≤ k) changes × Ascends changes

-- one change after what was before, at a key
abbrev then_at : ℕ → Outcome → ℕ × Outcome → Outcome
then_at q first e = followed_by first (cond (is_eq (nat_cmp e.0 q)) e.1 Nothing)

-- ---- from std's word

sorted_behind : (e : ℕ × Outcome) (changes : Changes) → IsSortedByKey (λ (x : ℕ × Outcome). x.0) nat_cmp (e ∷ changes) → IsSortedByKey (λ (x : ℕ × Outcome). x.0) nat_cmp changes
sorted_behind e changes s i d low in_range = simp unary_clauses (simp unary_clauses at (s (i + 1) d (omega arith) (omega arith)))

at_least : (e : ℕ × Outcome) (changes : Changes) → IsSortedByKey (λ (x : ℕ × Outcome). x.0) nat_cmp (e ∷ changes) → (k : ℕ) → k ≤ e.0 → AllKeys (λ a. k ≤ a) changes
at_least e [] s k h = tt
at_least e (x ∷ changes) s k h =
    let test : is_lt (nat_cmp x.0 e.0) ≡ false = s 0 e (omega arith) (omega arith) in
    let first : e.0 ≤ x.0 = not_less x.0 e.0 test in
    (omega arith, at_least x changes (sorted_behind e (x ∷ changes) s) k (omega arith))
  where
    not_less : (a b : ℕ) → is_lt (nat_cmp a b) ≡ false → b ≤ a
    not_less a b h = grind (arith, nat_tests)

pub Ascends-from_sorted : (changes : Changes) → IsSortedByKey (λ (x : ℕ × Outcome). x.0) nat_cmp changes → Ascends changes
Ascends-from_sorted [] s = tt
Ascends-from_sorted (e ∷ changes) s = (at_least e changes s e.0 (omega arith), Ascends-from_sorted changes (sorted_behind e changes s))

-- ---- tests of keys

same_key : (a b : ℕ) → (a == b) ≡ true → a ≡ b
same_key a b h = grind (arith, nat_tests)

other_key : (a b : ℕ) → (a == b) ≡ false → b ≤ a → b < a
other_key a b h le = grind (arith, nat_tests)

found_same : (a b : ℕ) → is_eq (nat_cmp a b) ≡ true → a ≡ b
found_same a b h = grind (arith, nat_tests)

not_found : (a b : ℕ) → b < a → is_eq (nat_cmp a b) ≡ false
not_found a b h = grind (arith, nat_tests)

-- ---- the keys of what is merged

merged-above : (low key : ℕ) (outcome : Outcome) (changes : Changes) → low < key → AllKeys (λ k. low < k) changes → AllAbove nat_cmp (merged_from key outcome changes) low
merged-above low key outcome [] h all = (less-nat_cmp low key h, tt)
merged-above low key outcome (e ∷ changes) h all =
    elim (e.0 == key) as (λ b. AllAbove nat_cmp (cond b (merged_from key (followed_by outcome e.1) changes) ((key, outcome) ∷ merged_from e.0 e.1 changes)) low) [
      | true ↦ merged-above low key (followed_by outcome e.1) changes h all.1
      | false ↦ (less-nat_cmp low key h, merged-above low e.0 e.1 changes all.0 all.1)
    ]

IsIncreasing-merged : (key : ℕ) (outcome : Outcome) (changes : Changes) → AllKeys (λ k. key ≤ k) changes → Ascends changes → IsIncreasing nat_cmp (merged_from key outcome changes)
IsIncreasing-merged key outcome [] all up = (tt, tt)
IsIncreasing-merged key outcome (e ∷ changes) all up =
    elim (e.0 == key) as (λ b. (e.0 == key) ≡ b → IsIncreasing nat_cmp (cond b (merged_from key (followed_by outcome e.1) changes) ((key, outcome) ∷ merged_from e.0 e.1 changes))) [
      | true ↦ λ _. IsIncreasing-merged key (followed_by outcome e.1) changes all.1 up.1
      | false ↦ λ other. let less : key < e.0 = other_key e.0 key other all.0 in (merged-above key e.0 e.1 changes less (AllKeys-map (λ k. e.0 ≤ k) (λ k. key < k) (λ k h. omega arith) changes up.0), IsIncreasing-merged e.0 e.1 changes up.0 up.1)
    ] refl

-- ---- what is found in what is merged

-- changes of greater keys do nothing at a key
untouched : (changes : Changes) (q : ℕ) (before : Outcome) → AllKeys (λ k. q < k) changes → fold (then_at q) before changes ≡ before
untouched [] q before all = refl
untouched (e ∷ changes) q before all = ap (λ b. fold (then_at q) (followed_by before (cond b e.1 Nothing)) changes) (not_found e.0 q all.0) ∙ untouched changes q before all.1

both_there : (b : Bool) (first later : Outcome) → cond b (followed_by first later) Nothing ≡ followed_by (cond b first Nothing) (cond b later Nothing)
both_there true first later = refl
both_there false first later = refl

one_found : (b : Bool) (outcome : Outcome) → unwrap_or (cond b (Some outcome) None) Nothing ≡ cond b outcome Nothing
one_found true outcome = refl
one_found false outcome = refl

merged-at : (key : ℕ) (outcome : Outcome) (changes : Changes) (q : ℕ) → AllKeys (λ k. key ≤ k) changes → Ascends changes → unwrap_or (lookup nat_cmp (merged_from key outcome changes) q) Nothing ≡ fold (then_at q) (cond (is_eq (nat_cmp key q)) outcome Nothing) changes
merged-at key outcome [] q all up = one_found (is_eq (nat_cmp key q)) outcome
merged-at key outcome (e ∷ changes) q all up =
    let here : Outcome = cond (is_eq (nat_cmp key q)) outcome Nothing in
    elim (e.0 == key) as (λ b. (e.0 == key) ≡ b → unwrap_or (lookup nat_cmp (cond b (merged_from key (followed_by outcome e.1) changes) ((key, outcome) ∷ merged_from e.0 e.1 changes)) q) Nothing ≡ fold (then_at q) (then_at q here e) changes) [
      | true ↦ λ same.
          merged-at key (followed_by outcome e.1) changes q all.1 up.1
          ∙ ap (λ o. fold (then_at q) o changes) (both_there (is_eq (nat_cmp key q)) outcome e.1 ∙ ap (λ k. followed_by here (cond (is_eq (nat_cmp k q)) e.1 Nothing)) (sym (same_key e.0 key same)))
      | false ↦ λ other. elim (is_eq (nat_cmp key q)) as (λ b. is_eq (nat_cmp key q) ≡ b → unwrap_or (cond b (Some outcome) (lookup nat_cmp (merged_from e.0 e.1 changes) q)) Nothing ≡ fold (then_at q) (then_at q (cond b outcome Nothing) e) changes) [
        | true ↦ λ is.
            let eq : key ≡ q = found_same key q is in
            let less : key < e.0 = other_key e.0 key other all.0 in
            sym (untouched (e ∷ changes) q outcome (omega arith, AllKeys-map (λ k. e.0 ≤ k) (λ k. q < k) (λ k h. omega arith) changes up.0))
        | false ↦ λ _. merged-at e.0 e.1 changes q up.0 up.1 ∙ ap (λ o. fold (then_at q) o changes) (sym (Nothing-followed_by (cond (is_eq (nat_cmp e.0 q)) e.1 Nothing)))
      ] refl
    ] refl

-- ---- which keys are in what is merged

one_listed : (b : Bool) (outcome : Outcome) → is_some (cond b (Some outcome) None) ≡ (b || false)
one_listed true outcome = refl
one_listed false outcome = refl

twice_listed : (b rest : Bool) → (b || rest) ≡ (b || (b || rest))
twice_listed true rest = refl
twice_listed false rest = refl

first_listed : (b : Bool) (outcome : Outcome) (found : Option Outcome) (rest : Bool) → is_some found ≡ rest → is_some (cond b (Some outcome) found) ≡ (b || rest)
first_listed true outcome found rest h = refl
first_listed false outcome found rest h = h

merged-listed : (key : ℕ) (outcome : Outcome) (changes : Changes) (q : ℕ) → is_some (lookup nat_cmp (merged_from key outcome changes) q) ≡ (is_eq (nat_cmp key q) || list_any (changes_key q) changes)
merged-listed key outcome [] q = one_listed (is_eq (nat_cmp key q)) outcome
merged-listed key outcome (e ∷ changes) q =
    let others : Bool = list_any (changes_key q) changes in
    elim (e.0 == key) as (λ b. (e.0 == key) ≡ b → is_some (lookup nat_cmp (cond b (merged_from key (followed_by outcome e.1) changes) ((key, outcome) ∷ merged_from e.0 e.1 changes)) q) ≡ (is_eq (nat_cmp key q) || (is_eq (nat_cmp e.0 q) || others))) [
      | true ↦ λ same.
          merged-listed key (followed_by outcome e.1) changes q
          ∙ twice_listed (is_eq (nat_cmp key q)) others
          ∙ ap (λ k. is_eq (nat_cmp key q) || (is_eq (nat_cmp k q) || others)) (sym (same_key e.0 key same))
      | false ↦ λ _. first_listed (is_eq (nat_cmp key q)) outcome (lookup nat_cmp (merged_from e.0 e.1 changes) q) (is_eq (nat_cmp e.0 q) || others) (merged-listed e.0 e.1 changes q)
    ] refl

-- ---- all

pub composed_is : (key : ℕ) (outcome : Outcome) (changes : Changes) → IsSortedByKey (λ (x : ℕ × Outcome). x.0) nat_cmp ((key, outcome) ∷ changes) → IsComposed ((key, outcome) ∷ changes) (merged_from key outcome changes)
composed_is key outcome changes sorted =
    let up = Ascends-from_sorted ((key, outcome) ∷ changes) sorted in
    record {
      rises = IsIncreasing-merged key outcome changes up.0 up.1;
      found_at = λ q. merged-at key outcome changes q up.0 up.1 ∙ ap (λ o. fold (then_at q) o changes) (sym (Nothing-followed_by (cond (is_eq (nat_cmp key q)) outcome Nothing)));
      listed = λ q. merged-listed key outcome changes q;
    }
