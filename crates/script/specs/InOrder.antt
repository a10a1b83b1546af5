-- The commands of records, one after another.
use Rattle.std.specs.Prelude.{◌+◌, ◌∷◌, [], ℕ, List, Result, Ok}
use Rattle.script.specs.Records.{Fields}
use Rattle.script.specs.Results.{◌>>=◌, at_place}
use Rattle.script.specs.declared.fault.BadRecord.{BadRecord}
use Rattle.script.specs.declared.fault.Code.{Code}

-- the commands of the records from a place on, or the first record that is bad
unfoldable pub commands_from : {C : Type 0} → (ℕ → Fields → Result C Code) → ℕ → List Fields → Result (List C) BadRecord
commands_from reading place [] = Ok []
commands_from reading place (r ∷ rs) = do
  c ← at_place place (reading place r)
  cs ← commands_from reading (place + 1) rs
  Ok (c ∷ cs)
