-- The fields of a record, each lawful or with its code, from left to right.
use Rattle.std.specs.Prelude.{◌∷◌, ℕ, List, [], Result, Ok, Err, Option, Some, None, slice_index_or, nat_lt, if◌then◌else◌}
use Rattle.aug_monoid.specs.declared.pair64.Pair64.{Pair64}
use Rattle.script.specs.Numbers.{number_of}
use Rattle.script.specs.Records.{Fields}
use Rattle.script.specs.Results.{◌>>=◌}
use Rattle.script.specs.declared.fault.Code.{Code}
use Rattle.script.specs.declared.fault.Code.TheVariants as code

-- the field at a place, or nothing past the record's end
abbrev pub field : Fields → ℕ → List ℕ
field r i = slice_index_or r i []

-- a value, where there is one, or this code
abbrev pub or_code : {A : Type 0} → Code → Option A → Result A Code
or_code c None = Err c
or_code c (Some x) = Ok x

abbrev pub number_in : Fields → ℕ → Result ℕ Code
number_in r i = or_code code.Number (number_of (field r i))

-- the registers are 0 to 15
abbrev pub fitting_register : Option ℕ → Option ℕ
fitting_register None = None
fitting_register (Some n) = if nat_lt n 16 then Some n else None

abbrev pub register_in : Fields → ℕ → Result ℕ Code
register_in r i = or_code code.Register (fitting_register (number_of (field r i)))

-- fields that are all numbers
unfoldable pub numbers_of : Fields → Result (List ℕ) Code
numbers_of [] = Ok []
numbers_of (f ∷ fs) = do
  n ← or_code code.Number (number_of f)
  ns ← numbers_of fs
  Ok (n ∷ ns)

abbrev pub pair_of : List ℕ → List ℕ → Result Pair64 Code
pair_of a b = do
  first ← or_code code.Number (number_of a)
  second ← or_code code.Number (number_of b)
  Ok (record { first = first; second = second })

-- fields that are pairs of numbers
unfoldable pub pairs_of : Fields → Result (List Pair64) Code
pairs_of [] = Ok []
pairs_of (a ∷ []) = Err code.Fields
pairs_of (a ∷ b ∷ fs) = do
  pair ← pair_of a b
  pairs ← pairs_of fs
  Ok (pair ∷ pairs)
