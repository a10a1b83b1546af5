-- The places where keys come first in a list of entries.
use Rattle.std.proofs.Common.{◌≡◌, ℕ, zero, suc, ◌+◌, ◌-◌, ◌<◌, ◌≤◌, Bool, true, false, cond, ◌==◌, List, [], ◌∷◌, length, take, get_or, Option, Some, refl, ap, ◌∙◌, arith}
use Rattle.std.specs.Prelude.{is_none}
use Rattle.std.specs.List.{dedup}
use Rattle.std.specs.List.Sorted.{IsSortedByKey, IsStableByKey}
use Rattle.std.specs.Option.{option_map_or}
use Rattle.std.specs.Ordering.{is_eq, nat_cmp}
use Rattle.std.specs.Cmp.{nat_cmp_total}
use Rattle.std.proofs.lemmas.Bool.Decides.{nat_tests}
use Rattle.map_model.specs.Entries.{lookup}
use Rattle.map_model.proofs.NatKeys.{nat_exact}
use Rattle.map_model.proofs.Sorted.{IsIncreasing-dedup, lookup-dedup, lookup-stable}
use Rattle.put_runs.specs.Places.{AreFirsts, placed}

-- what is found is this place
abbrev pub found_at : ℕ → Option ℕ → Bool
found_at p o = option_map_or (λ v. v == p) o false

same_key : (a : ℕ) → is_eq (nat_cmp a a) ≡ true
same_key a = grind (arith, nat_tests)

found_same : (a b : ℕ) → is_eq (nat_cmp a b) ≡ true → a ≡ b
found_same a b h = grind (arith, nat_tests)

same_place : (a b : ℕ) → a ≡ b → (a == b) ≡ true
same_place a b h = grind (arith, nat_tests)

other_place : (a b : ℕ) → a < b → (a == b) ≡ false
other_place a b h = grind (arith, nat_tests)

-- a key is found at its place where no entry before has it
first_at : (entries : List (ℕ × ℕ)) (i p j : ℕ) (d : ℕ × ℕ) → p < length entries → j ≡ i + p → found_at j (lookup nat_cmp (placed i entries) (get_or entries p d).0) ≡ is_none (lookup nat_cmp (take p entries) (get_or entries p d).0)
first_at [] i p j d h is = absurd (omega arith)
first_at (e ∷ entries) i zero j d h is = ap (λ b. found_at j (cond b (Some i) (lookup nat_cmp (placed (i + 1) entries) e.0))) (same_key e.0) ∙ same_place i j (omega arith)
first_at (e ∷ entries) i (suc p) j d h is =
    let key : ℕ = (get_or entries p d).0 in
    elim (is_eq (nat_cmp e.0 key)) as (λ b. found_at j (cond b (Some i) (lookup nat_cmp (placed (i + 1) entries) key)) ≡ is_none (cond b (Some e.1) (lookup nat_cmp (take p entries) key))) [
      | true ↦ other_place i j (omega arith)
      | false ↦ first_at entries (i + 1) p j d (omega arith) (omega arith)
    ]

pub found_at-first : (entries : List (ℕ × ℕ)) (p : ℕ) (d : ℕ × ℕ) → p < length entries → found_at p (lookup nat_cmp (placed 0 entries) (get_or entries p d).0) ≡ is_none (lookup nat_cmp (take p entries) (get_or entries p d).0)
found_at-first entries p d h = first_at entries 0 p p d h (omega arith)

-- a place that is found for a key has that key
key_at : (entries : List (ℕ × ℕ)) (i q v : ℕ) (d : ℕ × ℕ) → lookup nat_cmp (placed i entries) q ≡ Some v → (i ≤ v) × ((get_or entries (v - i) d).0 ≡ q)
key_at [] i q v d is = cc
key_at (e ∷ entries) i q v d is =
    elim (is_eq (nat_cmp e.0 q)) as (λ b. is_eq (nat_cmp e.0 q) ≡ b → cond b (Some i) (lookup nat_cmp (placed (i + 1) entries) q) ≡ Some v → (i ≤ v) × ((get_or (e ∷ entries) (v - i) d).0 ≡ q)) [
      | true ↦ λ eq here.
          let same : i ≡ v = cc in
          (omega arith, ap (λ n. (get_or (e ∷ entries) n d).0) {x = v - i} {y = 0} (omega arith) ∙ found_same e.0 q eq)
      | false ↦ λ _ there.
          let rest : (i + 1 ≤ v) × ((get_or entries (v - (i + 1)) d).0 ≡ q) = key_at entries (i + 1) q v d there in
          (omega (arith, rest.0), ap (λ n. (get_or (e ∷ entries) n d).0) {x = v - i} {y = suc (v - (i + 1))} (omega (arith, rest.0)) ∙ rest.1)
    ] refl is

pub key-at_place : (entries : List (ℕ × ℕ)) (q v : ℕ) (d : ℕ × ℕ) → lookup nat_cmp (placed 0 entries) q ≡ Some v → (get_or entries v d).0 ≡ q
key-at_place entries q v d is = ap (λ n. (get_or entries n d).0) {x = v} {y = v - 0} (omega arith) ∙ (key_at entries 0 q v d is).1

-- ---- all

pub firsts_are : (entries sorted : List (ℕ × ℕ)) → IsSortedByKey (λ (e : ℕ × ℕ). e.0) nat_cmp sorted → IsStableByKey (λ (e : ℕ × ℕ). e.0) nat_cmp (placed 0 entries) sorted → AreFirsts entries (dedup (λ x y. is_eq (nat_cmp x.0 y.0)) sorted)
firsts_are entries sorted up stable = record {
  rise = IsIncreasing-dedup (λ (x y : ℕ × ℕ). is_eq (nat_cmp x.0 y.0)) (λ x y. refl) nat_cmp_total sorted up;
  found = λ q. lookup-dedup (λ (x y : ℕ × ℕ). is_eq (nat_cmp x.0 y.0)) (λ x y. refl) nat_exact sorted q ∙ lookup-stable nat_cmp_total (placed 0 entries) sorted stable q;
}
