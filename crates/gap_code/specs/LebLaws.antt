-- What the bytes of a number are, and that it is read off them.
use Rattle.std.proofs.Common.{◌≡◌, ℕ, zero, suc, ◌+◌, ◌/◌, ◌%◌, ◌<◌, ◌≤◌, List, [], ◌∷◌, ◌++◌, length, refl, sym, ap, ◌∙◌, arith, inl, inr}
use Rattle.std.proofs.lemmas.Bool.{cases_lt}
use Rattle.std.proofs.lemmas.Bool.Decides.{nat_tests}
use Rattle.gap_code.specs.Leb.{leb, leb_within, number_of}

within_small : (most n : ℕ) → n < 128 → leb_within most n ≡ n ∷ []
within_small zero n h = refl
within_small (suc most) n h = grind (arith, nat_tests)

within_large : (most n : ℕ) → 128 ≤ n → leb_within (suc most) n ≡ (128 + n % 128) ∷ leb_within most (n / 128)
within_large most n h = grind (arith, nat_tests)

within_enough : (most more n : ℕ) → n ≤ most → n ≤ more → leb_within most n ≡ leb_within more n
within_enough zero more n h k = within_small zero n (omega arith) ∙ sym (within_small more n (omega arith))
within_enough (suc most) zero n h k = within_small (suc most) n (omega arith) ∙ sym (within_small zero n (omega arith))
within_enough (suc most) (suc more) n h k =
    elim (cases_lt n 128) [
      | inl small ↦ within_small (suc most) n small ∙ sym (within_small (suc more) n small)
      | inr large ↦ within_large most n large ∙ ap (λ t. (128 + n % 128) ∷ t) (within_enough most more (n / 128) (omega arith) (omega arith)) ∙ sym (within_large more n large)
    ]

pub leb_small : (n : ℕ) → n < 128 → leb n ≡ n ∷ []
unfolding leb
leb_small n h = within_small n n h

pub leb_large : (n : ℕ) → 128 ≤ n → leb n ≡ (128 + n % 128) ∷ leb (n / 128)
unfolding leb
leb_large n h = within_enough n (suc n) n (omega arith) (omega arith) ∙ within_large n n h ∙ ap (λ t. (128 + n % 128) ∷ t) (within_enough n (n / 128) (n / 128) (omega arith) (omega arith))

-- what is read is what was written
number_last : (n : ℕ) (others : List ℕ) → n < 128 → number_of (n ∷ others) ≡ n
number_last n others small = grind (arith, nat_tests)

number_more : (n : ℕ) (bs : List ℕ) → 128 ≤ n → number_of bs ≡ n / 128 → number_of ((128 + n % 128) ∷ bs) ≡ n
number_more n bs large is = grind (arith, nat_tests)

number_within : (most n : ℕ) (others : List ℕ) → n ≤ most → number_of (leb_within most n ++ others) ≡ n
number_within zero n others h = number_last n others (omega arith)
number_within (suc most) n others h =
    elim (cases_lt n 128) [
      | inl small ↦ rw (within_small (suc most) n small) (number_last n others small)
      | inr large ↦ rw (within_large most n large) (number_more n (leb_within most (n / 128) ++ others) large (number_within most (n / 128) others (omega arith)))
    ]

pub number_of-leb : (n : ℕ) (others : List ℕ) → number_of (leb n ++ others) ≡ n
unfolding leb
number_of-leb n others = number_within n n others (omega arith)

pub leb_some : (n : ℕ) → 0 < length (leb n)
leb_some n =
    elim (cases_lt n 128) [ inl small ↦ omega (arith, ap length (leb_small n small)) | inr large ↦ omega (arith, ap length (leb_large n large)) ]
