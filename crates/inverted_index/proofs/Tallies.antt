-- How often terms are among some.
use Rattle.std.proofs.Common.{◌≡◌, ℕ, zero, suc, ◌+◌, ◌-◌, ◌<◌, ◌≤◌, true, false, cond, List, [], ◌∷◌, ◌++◌, Option, Some, None, length, refl, sym, ap, ap₂, ◌∙◌, map, subst, arith}
use Rattle.std.specs.declared.cmp.Ordering.{Ordering}
use Rattle.std.specs.declared.cmp.Ordering.TheVariants.{Less, Equal, Greater}
use Rattle.std.specs.Option.{option_or}
use Rattle.std.specs.Ordering.{is_eq}
use Rattle.std.proofs.lemmas.Cmp.{nat_list_cmp_total}
use Rattle.std.proofs.lemmas.List.Sums.{sum_by-append, sum_by-cons, count_by-le-length}
use Rattle.std.proofs.lemmas.Map.Lookups.{exact_bytes}
use Rattle.map_model.specs.Entries.{IsIncreasing, lookup}
use Rattle.map_model.specs.Operations.{last_at}
use Rattle.map_model.specs.SetOperations.{union}
use Rattle.map_model.proofs.Lookups.{option_or-none}
use Rattle.map_model.proofs.Operations.{IsIncreasing-build, build-is, last_at-cons, lookup-after_puts}
use Rattle.map_model.proofs.Unions.{IsIncreasing-union, united, lookup-union}
use Rattle.inverted_index.specs.Terms.{bytes_cmp, tally, times}
use Rattle.inverted_index.specs.Merging.{sat}
use Rattle.inverted_index.proofs.Gathering.{limit}

-- a number of times, absent for none
abbrev counted : ℕ → Option ℕ
counted zero = None
counted (suc n) = Some (suc n)

counted-some : (n : ℕ) → 0 < n → counted n ≡ Some n
counted-some zero h = absurd (omega arith)
counted-some (suc n) h = refl

counted-none : (n : ℕ) → n ≡ 0 → counted n ≡ None
counted-none n h = ap counted h

counted-join : (m n : ℕ) → m + n ≤ limit → united sat (counted m) (counted n) ≡ counted (m + n)
counted-join zero zero low = sym (counted-none (0 + 0) (omega arith))
counted-join zero (suc n) low = sym (counted-some (0 + suc n) (omega arith) ∙ ap Some (omega arith))
counted-join (suc m) zero low = sym (counted-some (suc m + 0) (omega arith) ∙ ap Some (omega arith))
counted-join (suc m) (suc n) low = sym (counted-some (suc m + suc n) (omega arith) ∙ ap Some (omega arith))

-- a map has how often each term is among some
abbrev Counts : List (List ℕ × ℕ) → List (List ℕ) → Type 0
Counts m terms = (q : List ℕ) → lookup bytes_cmp m q ≡ counted (times terms q)

counts_one : (t : List ℕ) → Counts ((t, 1) ∷ []) (t ∷ [])
counts_one t q = elim (is_eq (bytes_cmp t q)) as (λ b. cond b (Some 1) None ≡ counted (0 + cond b 1 0)) [ true ↦ refl | false ↦ refl ]

counts_both : (a b : List (List ℕ × ℕ)) (l r : List (List ℕ)) → length (l ++ r) ≤ limit → IsIncreasing bytes_cmp b → Counts a l → Counts b r → Counts (union bytes_cmp sat a b) (l ++ r)
counts_both a b l r low s here there q =
    let whole : times (l ++ r) q ≡ times l q + times r q = sum_by-append (λ t. cond (is_eq (bytes_cmp t q)) 1 0) l r in
    let fits : times (l ++ r) q ≤ length (l ++ r) = count_by-le-length (λ t. is_eq (bytes_cmp t q)) (l ++ r) in
    lookup-union nat_list_cmp_total exact_bytes sat a b q s
    ∙ ap₂ (united sat) (here q) (there q)
    ∙ counted-join (times l q) (times r q) (omega arith)
    ∙ ap counted (sym whole)

equal : (o : Ordering) → is_eq o ≡ true → o ≡ Equal
equal Less h = cc
equal Equal h = refl
equal Greater h = cc

-- a value that is there for some times
abbrev cond_counted : ℕ → ℕ → Option ℕ
cond_counted zero v = None
cond_counted (suc n) v = Some v

cond_counted-some : (n v : ℕ) → 0 < n → cond_counted n v ≡ Some v
cond_counted-some zero v h = absurd (omega arith)
cond_counted-some (suc n) v h = refl

here : (n v w : ℕ) → v ≡ w → option_or (cond_counted n w) (Some v) ≡ cond_counted (1 + n) w
here zero v w h = ap Some h ∙ sym (cond_counted-some (1 + 0) w (omega arith))
here (suc n) v w h = sym (cond_counted-some (1 + suc n) w (omega arith))

there : (n w : ℕ) → option_or (cond_counted n w) None ≡ cond_counted (0 + n) w
there zero w = let e : 0 ≡ 0 + 0 = omega arith in ap (λ n. cond_counted n w) e
there (suc n) w = sym (cond_counted-some (0 + suc n) w (omega arith))

itself : (n : ℕ) → counted n ≡ cond_counted n n
itself zero = refl
itself (suc n) = refl

last-times : (g : List ℕ → ℕ) (terms : List (List ℕ)) (q : List ℕ) → last_at bytes_cmp (map (λ t. (t, g t)) terms) q ≡ cond_counted (times terms q) (g q)
last-times g [] q = refl
last-times g (t ∷ terms) q =
    last_at-cons bytes_cmp (t, g t) (map (λ t. (t, g t)) terms) q
    ∙ ap (λ o. option_or o (cond (is_eq (bytes_cmp t q)) (Some (g t)) None)) (last-times g terms q)
    ∙ elim (is_eq (bytes_cmp t q)) as (λ b. is_eq (bytes_cmp t q) ≡ b → option_or (cond_counted (times terms q) (g q)) (cond b (Some (g t)) None) ≡ cond_counted (cond b 1 0 + times terms q) (g q)) [
      | true ↦ λ yes. here (times terms q) (g t) (g q) (ap g (exact_bytes t q (equal (bytes_cmp t q) yes)))
      | false ↦ λ _. there (times terms q) (g q)
    ] refl
    ∙ ap (λ n. cond_counted n (g q)) (sym (sum_by-cons (λ t. cond (is_eq (bytes_cmp t q)) 1 0) t terms))

tallied : (m : List (List ℕ × ℕ)) (terms : List (List ℕ)) → IsIncreasing bytes_cmp m → Counts m terms → m ≡ tally terms
tallied m terms s counts = sym (build-is nat_list_cmp_total exact_bytes (map (λ t. (t, times terms t)) terms) m s (λ q. counts q ∙ itself (times terms q) ∙ sym (last-times (times terms) terms q)))

tally_counts : (terms : List (List ℕ)) → Counts (tally terms) terms
tally_counts terms q =
    lookup-after_puts nat_list_cmp_total exact_bytes (map (λ t. (t, times terms t)) terms) [] q
    ∙ option_or-none (last_at bytes_cmp (map (λ t. (t, times terms t)) terms) q)
    ∙ last-times (times terms) terms q
    ∙ sym (itself (times terms q))

pub tally_rises : (terms : List (List ℕ)) → IsIncreasing bytes_cmp (tally terms)
tally_rises terms = IsIncreasing-build nat_list_cmp_total (map (λ t. (t, times terms t)) terms)

pub tally_one : (t : List ℕ) → (t, 1) ∷ [] ≡ tally (t ∷ [])
tally_one t = tallied ((t, 1) ∷ []) (t ∷ []) (tt, tt) (counts_one t)

pub tally_both : (l r : List (List ℕ)) → length (l ++ r) ≤ limit → union bytes_cmp sat (tally l) (tally r) ≡ tally (l ++ r)
tally_both l r low = tallied (union bytes_cmp sat (tally l) (tally r)) (l ++ r) (IsIncreasing-union nat_list_cmp_total sat (tally l) (tally r) (tally_rises l)) (counts_both (tally l) (tally r) l r low (tally_rises r) (tally_counts l) (tally_counts r))

pub rises_of : (W : List (List ℕ × ℕ)) (terms : List (List ℕ)) → W ≡ tally terms → IsIncreasing bytes_cmp W
rises_of W terms is = let P : List (List ℕ × ℕ) → Type 0 = λ w. IsIncreasing bytes_cmp w in subst P (sym is) (tally_rises terms)
