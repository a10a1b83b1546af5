-- How two values are combined, by its word.
use Rattle.std.specs.Prelude.{ℕ, ◌+◌, ◌-◌, ◌^◌, List, codes, min, max, Result, Ok, Option, Some, None, if◌then◌else◌}
use Rattle.std.specs.Str.{bytes_eq}
use Rattle.map_records.specs.declared.how.How.{How}
use Rattle.map_records.specs.declared.how.How.TheVariants as how
use Rattle.script.specs.Fields.{field, or_code, register_in}
use Rattle.script.specs.Records.{Fields}
use Rattle.script.specs.Results.{◌>>=◌}
use Rattle.script.specs.Shapes.{with_fields}
use Rattle.script.specs.declared.fault.Code.{Code}
use Rattle.script.specs.declared.fault.Code.TheVariants as code

-- how two values are combined
unfoldable pub how_named : List ℕ → Option How
how_named word =
    if bytes_eq word (codes "first") then Some how.First
    else if bytes_eq word (codes "second") then Some how.Second
    else if bytes_eq word (codes "sum") then Some how.Sum
    else if bytes_eq word (codes "max") then Some how.Max
    else None

abbrev pub how_in : Fields → ℕ → Result How Code
how_in r i = or_code code.How (how_named (field r i))

-- a verb, three registers and how two values are combined
abbrev pub three_registers_how : Fields → Result (ℕ × ℕ × ℕ × How) Code
three_registers_how r = with_fields 5 r (do
  a ← register_in r 1
  b ← register_in r 2
  c ← register_in r 3
  h ← how_in r 4
  Ok (a, b, c, h))

-- the value at a key of two maps, from that of the first and that of the second
abbrev pub resolved_by : How → ℕ → ℕ → ℕ
resolved_by how.First a b = a
resolved_by how.Second a b = b
resolved_by how.Sum a b = min (a + b) (2 ^ 64 - 1)
resolved_by how.Max a b = max a b
