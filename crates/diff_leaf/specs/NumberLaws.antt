-- Signed keys are in the order of their numbers, and numbers are read back from keys.
use Rattle.std.proofs.Common.{◌≡◌, ℕ, ◌<◌, ◌≤◌, List, [], ◌∷◌, length, map, pos, ◌+ℤ◌, ◌<ℤ◌, refl, sym, ap, ap₂, arith}
use Rattle.std.specs.Prelude.{unsigned_abs}
use Rattle.std.specs.Ordering.{nat_cmp, int_cmp, MatchOrdering}
use Rattle.std.specs.declared.cmp.Ordering.{Ordering}
use Rattle.std.specs.declared.cmp.Ordering.TheVariants.{Less, Equal, Greater}
use Rattle.std.specs.Cmp.{ranked, int_cmp_is}
use Rattle.std.proofs.lemmas.Int.{ints}
use Rattle.std.proofs.lemmas.List.{length-map}
use Rattle.gap_code.specs.Code.{IsPlace}
use Rattle.diff_leaf.specs.Numbers.{key_entry, number_entry, signed_key, signed_number}

pub signed_ordered : (half a b : ℕ) → int_cmp (signed_key half a) (signed_key half b) ≡ nat_cmp a b
signed_ordered half a b = sym (int_cmp_is (signed_key half a) (signed_key half b) (nat_cmp a b) (shifted (nat_cmp a b) (ranked a b (nat_cmp a b) refl)))
  where
    shifted : (r : Ordering) → MatchOrdering r (a < b) (a ≡ b) (b < a) → MatchOrdering r (signed_key half a <ℤ signed_key half b) (signed_key half a ≡ signed_key half b) (signed_key half b <ℤ signed_key half a)
    shifted Less h = omega (arith, ints)
    shifted Equal h = ap (signed_key half) h
    shifted Greater h = omega (arith, ints)

pub signed_read_back : (half n : ℕ) → signed_number half (signed_key half n) ≡ n
signed_read_back half n =
    let back : signed_key half n +ℤ pos half ≡ pos n = omega (arith, ints) in
    ap unsigned_abs back

pub numbers_again : {K V : Type 0} (number_of : K → ℕ) (key_of : ℕ → K) → ((n : ℕ) → number_of (key_of n) ≡ n) → (es : List (ℕ × V)) → map (number_entry number_of) (map (key_entry key_of) es) ≡ es
numbers_again number_of key_of read_back [] = refl
numbers_again number_of key_of read_back (e ∷ es) = ap₂ (λ n t. (n, e.1) ∷ t) (read_back e.0) (numbers_again number_of key_of read_back es)

pub place_within : {K V : Type 0} (number_of : K → ℕ) (bytes : V → List ℕ) (es : List (K × V)) {index byte key : ℕ} → IsPlace bytes (map (number_entry number_of) es) index byte key → index ≤ length es
place_within number_of bytes es p = omega (arith, p.within, length-map es (number_entry number_of))

-- entries whose keys are their own numbers
pub own_numbers : {V : Type 0} (es : List (ℕ × V)) → map (number_entry (λ k. k)) es ≡ es
own_numbers [] = refl
own_numbers (e ∷ es) = ap (λ t. e ∷ t) (own_numbers es)
