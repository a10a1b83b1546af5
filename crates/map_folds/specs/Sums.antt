-- Sums in numbers of a given size.
use Rattle.std.specs.Prelude.{◌≡◌, ℕ, ◌+◌, ◌-◌, ◌^◌, ◌<◌, ◌≤◌, min, Bool, true, false, cond, nat_lt, Option, Some, None, ℤ, pos, ◌+ℤ◌, FitsSigned, refl}
use Rattle.std.specs.Int.{w128, int_wrap}
use Rattle.std.proofs.Common.{ap, sym, ◌∙◌, arith}
use Rattle.std.proofs.lemmas.Bool.Decides.{nat_tests}
use Rattle.std.proofs.Math.IntN.{+ℤ_assoc, +ℤ_idl, +ℤ_idr}
use Rattle.std.proofs.lemmas.Int.{int_wrap_fits, SFits-int_wrap, int_wrap-add_left, int_wrap-add_right}
use Rattle.map_model.specs.Fold.{IsMonoidOver}

-- ---- a sum that stops at the greatest number of 64 bits

abbrev pub Within64 : ℕ → Type 0
Within64 n = n ≤ 2 ^ 64 - 1

abbrev pub capped : ℕ → ℕ
capped n = min n (2 ^ 64 - 1)

abbrev pub capped_sum : ℕ → ℕ → ℕ
capped_sum a b = capped (a + b)

pub capped_fits : (n : ℕ) → Within64 (capped n)
capped_fits n = omega arith

pub one_fits : Within64 1
one_fits = omega arith

pub capped_monoid : IsMonoidOver Within64 0 capped_sum
capped_monoid = record {
  unit_fits = omega arith;
  combine_fits = λ a b f g. omega arith;
  left_unit = λ a f. omega arith;
  right_unit = λ a f. omega arith;
  assoc = λ a b c f g h. omega arith;
}

-- ---- a sum that is none where it has no 64 bits

abbrev pub SumWithin64 : Option ℕ → Type 0
SumWithin64 None = Unit {0}
SumWithin64 (Some n) = n < 2 ^ 64

-- a number of 64 bits, and none for a greater one
abbrev pub within64 : ℕ → Option ℕ
within64 n = cond (nat_lt n (2 ^ 64)) (Some n) None

-- the sum of two, and none where it or one of them is too great
abbrev pub checked_sum : Option ℕ → Option ℕ → Option ℕ
checked_sum None b = None
checked_sum (Some x) None = None
checked_sum (Some x) (Some y) = within64 (x + y)

fits_where : (n : ℕ) (small : Bool) → nat_lt n (2 ^ 64) ≡ small → SumWithin64 (cond small (Some n) None)
fits_where n true is = grind (arith, nat_tests)
fits_where n false is = tt

pub within64_fits : (n : ℕ) → SumWithin64 (within64 n)
within64_fits n = fits_where n (nat_lt n (2 ^ 64)) refl

small_is : (n : ℕ) → n < 2 ^ 64 → within64 n ≡ Some n
small_is n small = let below : nat_lt n (2 ^ 64) ≡ true = grind (arith, nat_tests) in ap (λ b. cond b (Some n) None) below

great_is : (n : ℕ) → 2 ^ 64 ≤ n → within64 n ≡ None
great_is n great = let past : nat_lt n (2 ^ 64) ≡ false = grind (arith, nat_tests) in ap (λ b. cond b (Some n) None) past

none_right : (a : Option ℕ) → checked_sum a None ≡ None
none_right None = refl
none_right (Some x) = refl

-- what is too great stays too great
more_left : (n z : ℕ) (small : Bool) → nat_lt n (2 ^ 64) ≡ small → checked_sum (cond small (Some n) None) (Some z) ≡ within64 (n + z)
more_left n z true is = refl
more_left n z false is = sym (great_is (n + z) (grind (arith, nat_tests)))

more_right : (x n : ℕ) (small : Bool) → nat_lt n (2 ^ 64) ≡ small → checked_sum (Some x) (cond small (Some n) None) ≡ within64 (x + n)
more_right x n true is = refl
more_right x n false is = sym (great_is (x + n) (grind (arith, nat_tests)))

sum_fits : (a b : Option ℕ) → SumWithin64 (checked_sum a b)
sum_fits None b = tt
sum_fits (Some x) None = tt
sum_fits (Some x) (Some y) = within64_fits (x + y)

sum_left : (a : Option ℕ) → SumWithin64 a → checked_sum (Some 0) a ≡ a
sum_left None f = refl
sum_left (Some x) f = ap within64 (omega arith) ∙ small_is x f

sum_right : (a : Option ℕ) → SumWithin64 a → checked_sum a (Some 0) ≡ a
sum_right None f = refl
sum_right (Some x) f = ap within64 (omega arith) ∙ small_is x f

sum_assoc : (a b c : Option ℕ) → checked_sum (checked_sum a b) c ≡ checked_sum a (checked_sum b c)
sum_assoc None b c = refl
sum_assoc (Some x) None c = refl
sum_assoc (Some x) (Some y) None = none_right (within64 (x + y))
sum_assoc (Some x) (Some y) (Some z) =
    let regrouped : within64 (x + y + z) ≡ within64 (x + (y + z)) = ap within64 (omega arith) in
    more_left (x + y) z (nat_lt (x + y) (2 ^ 64)) refl ∙ regrouped ∙ sym (more_right x (y + z) (nat_lt (y + z) (2 ^ 64)) refl)

pub checked_monoid : IsMonoidOver SumWithin64 (Some 0) checked_sum
checked_monoid = record {
  unit_fits = omega arith;
  combine_fits = λ a b f g. sum_fits a b;
  left_unit = λ a f. sum_left a f;
  right_unit = λ a f. sum_right a f;
  assoc = λ a b c f g h. sum_assoc a b c;
}

-- ---- a sum with a sign, that wraps in 128 bits

abbrev pub FitsI128 : ℤ → Type 0
FitsI128 z = FitsSigned w128 z

-- what is left of a number in 128 bits, which is the number itself from -2^127 to 2^127 - 1
abbrev pub in_128 : ℤ → ℤ
in_128 z = int_wrap w128 z

abbrev pub signed_sum : ℤ → ℤ → ℤ
signed_sum a b = in_128 (a +ℤ b)

pub in_128_fits : (z : ℤ) → FitsI128 (in_128 z)
in_128_fits z = SFits-int_wrap w128 z

pub signed_monoid : IsMonoidOver FitsI128 (pos 0) signed_sum
signed_monoid = record {
  unit_fits = omega arith;
  combine_fits = λ a b f g. in_128_fits (a +ℤ b);
  left_unit = λ a f. ap in_128 (+ℤ_idl a) ∙ int_wrap_fits w128 a f;
  right_unit = λ a f. ap in_128 (+ℤ_idr a) ∙ int_wrap_fits w128 a f;
  assoc = λ a b c f g h. int_wrap-add_left w128 (a +ℤ b) c ∙ ap in_128 (+ℤ_assoc a b c) ∙ sym (int_wrap-add_right w128 a (b +ℤ c));
}
