-- The shapes of whole records: how many fields they have, and what each is, from left to right.
use Rattle.std.specs.Prelude.{◌==◌, ◌%◌, ℕ, List, drop, length, Result, Ok, Err, nat_le, if◌then◌else◌}
use Rattle.aug_monoid.specs.declared.pair64.Pair64.{Pair64}
use Rattle.script.specs.Fields.{field, number_in, numbers_of, pairs_of, register_in}
use Rattle.script.specs.Records.{Fields}
use Rattle.script.specs.Results.{◌>>=◌}
use Rattle.script.specs.declared.fault.Code.{Code}
use Rattle.script.specs.declared.fault.Code.TheVariants as code

-- reading goes on only in a record with so many fields
abbrev pub with_fields : {A : Type 0} → ℕ → Fields → Result A Code → Result A Code
with_fields n r read = if length r == n then read else Err code.Fields

-- or with at least so many
abbrev pub with_at_least : {A : Type 0} → ℕ → Fields → Result A Code → Result A Code
with_at_least n r read = if nat_le n (length r) then read else Err code.Fields

-- or with an even number of them
abbrev pub with_even : {A : Type 0} → Fields → Result A Code → Result A Code
with_even r read = if length r % 2 == 0 then read else Err code.Fields

-- or with a verb and groups of so many
abbrev pub with_groups : {A : Type 0} → ℕ → Fields → Result A Code → Result A Code
with_groups n r read = if length r % n == 1 then read else Err code.Fields

-- a verb and a register
abbrev pub register : Fields → Result ℕ Code
register r = with_fields 2 r (register_in r 1)

-- a verb, a register and a number
abbrev pub register_number : Fields → Result (ℕ × ℕ) Code
register_number r = with_fields 3 r (do
  a ← register_in r 1
  b ← number_in r 2
  Ok (a, b))

-- a verb, a register and two numbers
abbrev pub register_number_number : Fields → Result (ℕ × ℕ × ℕ) Code
register_number_number r = with_fields 4 r (do
  a ← register_in r 1
  b ← number_in r 2
  c ← number_in r 3
  Ok (a, b, c))

-- a verb, a register and any number of numbers, at least one
abbrev pub register_numbers : Fields → Result (ℕ × List ℕ) Code
register_numbers r = with_at_least 3 r (do
  a ← register_in r 1
  ns ← numbers_of (drop 2 r)
  Ok (a, ns))

-- a verb, a register and any number of pairs of numbers
abbrev pub register_pairs : Fields → Result (ℕ × List Pair64) Code
register_pairs r = with_at_least 2 r (with_even r (do
  a ← register_in r 1
  ps ← pairs_of (drop 2 r)
  Ok (a, ps)))

-- the same with at least one pair
abbrev pub register_some_pairs : Fields → Result (ℕ × List Pair64) Code
register_some_pairs r = with_at_least 4 r (register_pairs r)

-- a verb and two registers
abbrev pub two_registers : Fields → Result (ℕ × ℕ) Code
two_registers r = with_fields 3 r (do
  a ← register_in r 1
  b ← register_in r 2
  Ok (a, b))

-- a verb, two registers and a number
abbrev pub two_registers_number : Fields → Result (ℕ × ℕ × ℕ) Code
two_registers_number r = with_fields 4 r (do
  a ← register_in r 1
  b ← register_in r 2
  c ← number_in r 3
  Ok (a, b, c))

-- a verb, two registers and two numbers
abbrev pub two_registers_number_number : Fields → Result (ℕ × ℕ × ℕ × ℕ) Code
two_registers_number_number r = with_fields 5 r (do
  a ← register_in r 1
  b ← register_in r 2
  c ← number_in r 3
  d ← number_in r 4
  Ok (a, b, c, d))

-- a verb and three registers
abbrev pub three_registers : Fields → Result (ℕ × ℕ × ℕ) Code
three_registers r = with_fields 4 r (do
  a ← register_in r 1
  b ← register_in r 2
  c ← register_in r 3
  Ok (a, b, c))

-- a verb alone
abbrev pub alone : Fields → Result (Unit {0}) Code
alone r = with_fields 1 r (Ok tt)

-- a verb and one number
abbrev pub one_number : Fields → Result ℕ Code
one_number r = with_fields 2 r (number_in r 1)

-- a verb and two numbers
abbrev pub two_numbers : Fields → Result (ℕ × ℕ) Code
two_numbers r = with_fields 3 r (do
  a ← number_in r 1
  b ← number_in r 2
  Ok (a, b))

-- a verb and four numbers
abbrev pub four_numbers : Fields → Result (ℕ × ℕ × ℕ × ℕ) Code
four_numbers r = with_fields 5 r (do
  a ← number_in r 1
  b ← number_in r 2
  c ← number_in r 3
  d ← number_in r 4
  Ok (a, b, c, d))

-- two numbers in order
abbrev pub in_order : ℕ × ℕ → Result (ℕ × ℕ) Code
in_order ends = if nat_le ends.0 ends.1 then Ok ends else Err code.Interval

-- a verb and the two ends of an interval
abbrev pub two_ends : Fields → Result (ℕ × ℕ) Code
two_ends r = two_numbers r >>= in_order

-- a verb and any number of pairs of numbers, at least one
abbrev pub some_pairs : Fields → Result (List Pair64) Code
some_pairs r = with_at_least 3 r (with_groups 2 r (pairs_of (drop 1 r)))

-- a verb, a number and a text
abbrev pub number_text : Fields → Result (ℕ × List ℕ) Code
number_text r = with_fields 3 r (do
  n ← number_in r 1
  Ok (n, field r 2))
