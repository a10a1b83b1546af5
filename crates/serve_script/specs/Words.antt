-- What stands behind the word of an operation or a query.
use Rattle.std.specs.Prelude.{ℕ, Result, Ok}
use Rattle.script.specs.Fields.{number_in}
use Rattle.script.specs.Records.{Fields}
use Rattle.script.specs.Results.{◌>>=◌}
use Rattle.script.specs.Shapes.{with_at_least, with_fields}
use Rattle.script.specs.declared.fault.Code.{Code}

-- the one or two numbers that some fields begin with
abbrev pub next_number : Fields → Result ℕ Code
next_number fields = with_at_least 1 fields (number_in fields 0)

abbrev pub next_numbers : Fields → Result (ℕ × ℕ) Code
next_numbers fields = with_at_least 2 fields (do
  a ← number_in fields 0
  b ← number_in fields 1
  Ok (a, b))

-- what stands behind the word of a query, which is the third field
abbrev pub query_number : Fields → Result ℕ Code
query_number r = with_fields 4 r (number_in r 3)

abbrev pub query_numbers : Fields → Result (ℕ × ℕ) Code
query_numbers r = with_fields 5 r (do
  a ← number_in r 3
  b ← number_in r 4
  Ok (a, b))

abbrev pub no_query_number : Fields → Result (Unit {0}) Code
no_query_number r = with_fields 3 r (Ok tt)
