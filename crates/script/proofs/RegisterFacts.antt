-- The registers that are read are 0 to 15.
use Rattle.std.proofs.Common.{◌<◌, ◌==◌, ◌%◌, ℕ, List, Option, Some, None, Result, IfOk, inl, inr, length, drop, nat_le, nat_lt}
use Rattle.std.proofs.lemmas.Bool.{cases_Bool, ltb-true}
use Rattle.aug_monoid.specs.declared.pair64.Pair64.{Pair64}
use Rattle.script.proofs.RowFacts.{ok_then, then_any, where_it_fits}
use Rattle.script.specs.Fields.{field, fitting_register, number_in, numbers_of, or_code, pairs_of, register_in}
use Rattle.script.specs.Numbers.{number_of}
use Rattle.script.specs.Records.{Fields}
use Rattle.script.specs.Results.{◌>>=◌}
use Rattle.script.specs.Shapes as shape
use Rattle.script.specs.declared.fault.Code.{Code}
use Rattle.script.specs.declared.fault.Code.TheVariants as code

abbrev pub IsLow : ℕ → Type 0
IsLow n = n < 16

low_or_code : (o : Option ℕ) → IfOk (or_code code.Register (fitting_register o)) IsLow
low_or_code None = tt
low_or_code (Some n) = elim (cases_Bool (nat_lt n 16)) [
  | inl under ↦ rw under (ltb-true n 16 under)
  | inr over ↦ rw over tt
]

register_low : (r : Fields) (i : ℕ) → IfOk (register_in r i) IsLow
register_low r i = low_or_code (number_of (field r i))

pub then_low : {B : Type 0} (P : B → Type 0) (r : Fields) (i : ℕ) (f : ℕ → Result B Code) → ((n : ℕ) → n < 16 → IfOk (f n) P) → IfOk (register_in r i >>= f) P
then_low P r i f h = ok_then IsLow P (register_in r i) f (register_low r i) h

-- the first so many of so many values are registers
abbrev pub OneOf₂ : (B : Type 0) → ℕ × B → Type 0
OneOf₂ B f = f.0 < 16

abbrev pub OneOf₃ : ℕ × ℕ × ℕ → Type 0
OneOf₃ f = f.0 < 16

abbrev pub TwoOf₂ : ℕ × ℕ → Type 0
TwoOf₂ f = (f.0 < 16) × (f.1 < 16)

abbrev pub TwoOf₃ : ℕ × ℕ × ℕ → Type 0
TwoOf₃ f = (f.0 < 16) × (f.1 < 16)

abbrev pub TwoOf₄ : ℕ × ℕ × ℕ × ℕ → Type 0
TwoOf₄ f = (f.0 < 16) × (f.1 < 16)

abbrev pub ThreeOf₃ : ℕ × ℕ × ℕ → Type 0
ThreeOf₃ f = (f.0 < 16) × (f.1 < 16) × (f.2 < 16)

-- each shape of records begins with its registers
pub register_lows : (r : Fields) → IfOk (shape.register r) IsLow
register_lows r = where_it_fits IsLow (length r == 2) _ (register_low r 1)

pub register_number_lows : (r : Fields) → IfOk (shape.register_number r) (OneOf₂ ℕ)
register_number_lows r = where_it_fits (OneOf₂ ℕ) (length r == 3) _ (
    then_low (OneOf₂ ℕ) r 1 _ (λ a low. then_any (OneOf₂ ℕ) (number_in r 2) _ (λ b. low)))

pub register_number_number_lows : (r : Fields) → IfOk (shape.register_number_number r) OneOf₃
register_number_number_lows r = where_it_fits OneOf₃ (length r == 4) _ (
    then_low OneOf₃ r 1 _ (λ a low. then_any OneOf₃ (number_in r 2) _ (λ b. then_any OneOf₃ (number_in r 3) _ (λ c. low))))

pub register_numbers_lows : (r : Fields) → IfOk (shape.register_numbers r) (OneOf₂ (List ℕ))
register_numbers_lows r = where_it_fits (OneOf₂ (List ℕ)) (nat_le 3 (length r)) _ (
    then_low (OneOf₂ (List ℕ)) r 1 _ (λ a low. then_any (OneOf₂ (List ℕ)) (numbers_of (drop 2 r)) _ (λ b. low)))

pub register_pairs_lows : (r : Fields) → IfOk (shape.register_pairs r) (OneOf₂ (List Pair64))
register_pairs_lows r = where_it_fits (OneOf₂ (List Pair64)) (nat_le 2 (length r)) _ (where_it_fits (OneOf₂ (List Pair64)) (length r % 2 == 0) _ (
    then_low (OneOf₂ (List Pair64)) r 1 _ (λ a low. then_any (OneOf₂ (List Pair64)) (pairs_of (drop 2 r)) _ (λ b. low))))

pub register_some_pairs_lows : (r : Fields) → IfOk (shape.register_some_pairs r) (OneOf₂ (List Pair64))
register_some_pairs_lows r = where_it_fits (OneOf₂ (List Pair64)) (nat_le 4 (length r)) _ (register_pairs_lows r)

pub two_registers_lows : (r : Fields) → IfOk (shape.two_registers r) TwoOf₂
two_registers_lows r = where_it_fits TwoOf₂ (length r == 3) _ (
    then_low TwoOf₂ r 1 _ (λ a low. then_low TwoOf₂ r 2 _ (λ b second. (low, second))))

pub two_registers_number_lows : (r : Fields) → IfOk (shape.two_registers_number r) TwoOf₃
two_registers_number_lows r = where_it_fits TwoOf₃ (length r == 4) _ (
    then_low TwoOf₃ r 1 _ (λ a low. then_low TwoOf₃ r 2 _ (λ b second. then_any TwoOf₃ (number_in r 3) _ (λ c. (low, second)))))

pub two_registers_number_number_lows : (r : Fields) → IfOk (shape.two_registers_number_number r) TwoOf₄
two_registers_number_number_lows r = where_it_fits TwoOf₄ (length r == 5) _ (
    then_low TwoOf₄ r 1 _ (λ a low. then_low TwoOf₄ r 2 _ (λ b second. then_any TwoOf₄ (number_in r 3) _ (λ c. then_any TwoOf₄ (number_in r 4) _ (λ d. (low, second))))))

pub three_registers_lows : (r : Fields) → IfOk (shape.three_registers r) ThreeOf₃
three_registers_lows r = where_it_fits ThreeOf₃ (length r == 4) _ (
    then_low ThreeOf₃ r 1 _ (λ a low. then_low ThreeOf₃ r 2 _ (λ b second. then_low ThreeOf₃ r 3 _ (λ c third. (low, second, third)))))
