-- The records of a tool that serves callers. The first one says how many callers there are, and the later ones are read by it.
use Rattle.std.specs.Prelude.{◌≡◌, ◌<◌, ◌≤◌, [], ◌∷◌, ℕ, zero, suc, List, Result, Ok, Err, Option, Some, None, codes, drop, length, map, nat_le, nat_lt, if◌then◌else◌}
use Rattle.std.specs.List.{AllByRecursion, range_with_len}
use Rattle.script.specs.InOrder.{commands_from}
use Rattle.script.specs.Fields.{field, or_code}
use Rattle.script.specs.Numbers.{number_of}
use Rattle.script.specs.Records.{Fields, records_of}
use Rattle.script.specs.Results.{◌>>=◌, at_place}
use Rattle.script.specs.Rows.{has_verb, makes₀, makes₂}
use Rattle.script.specs.Shapes.{alone, with_at_least, with_fields}
use Rattle.script.specs.declared.fault.BadRecord.{BadRecord}
use Rattle.script.specs.declared.fault.Code.{Code}
use Rattle.script.specs.declared.fault.Code.TheVariants as code
use Rattle.serve_script.specs.declared.commands.ServedCommand.{ServedCommand}
use Rattle.serve_script.specs.declared.commands.ServedCommand.TheVariants as command

-- there are 1 to 64 callers
abbrev pub fitting_callers : Option ℕ → Option ℕ
fitting_callers None = None
fitting_callers (Some n) = if nat_le 1 n then (if nat_le n 64 then Some n else None) else None

abbrev pub callers_in : Fields → ℕ → Result ℕ Code
callers_in r i = or_code code.Callers (fitting_callers (number_of (field r i)))

-- and they are 0 to n - 1
abbrev pub fitting_caller : ℕ → Option ℕ → Option ℕ
fitting_caller n None = None
fitting_caller n (Some c) = if nat_lt c n then Some c else None

abbrev pub caller_in : ℕ → Fields → ℕ → Result ℕ Code
caller_in n r i = or_code code.Caller (fitting_caller n (number_of (field r i)))

-- how many callers the first record says that there are
unfoldable pub callers_of : Fields → Result ℕ Code
callers_of r = if has_verb r (codes "serve") then with_fields 2 r (callers_in r 1) else Err code.Verb

-- an operation is what a word and the fields behind it say, and has so many numbers
module _ {O : Type 0} (operation_of : List ℕ → Fields → Result O Code) (numbers_in : O → ℕ) where
  -- the operations of some fields, of which the first are numbers of an operation before
  unfoldable pub operations_after : ℕ → Fields → Result (List O) Code
  operations_after numbers [] = Ok []
  operations_after (suc numbers) (f ∷ fs) = operations_after numbers fs
  operations_after zero (f ∷ fs) = do
    operation ← operation_of f fs
    operations ← operations_after (numbers_in operation) fs
    Ok (operation ∷ operations)

  abbrev pub operations_of : Fields → Result (List O) Code
  operations_of fields = operations_after 0 fields

  -- a verb, a caller and operations
  abbrev pub caller_operations : ℕ → Fields → Result (ℕ × List O) Code
  caller_operations n r = with_at_least 3 r (do
    c ← caller_in n r 1
    operations ← operations_of (drop 2 r)
    Ok (c, operations))

-- a verb, a caller and a query
abbrev pub caller_query : {Q : Type 0} → (Fields → Result Q Code) → ℕ → Fields → Result (ℕ × Q) Code
caller_query query_of n r = with_at_least 3 r (do
  c ← caller_in n r 1
  question ← query_of r
  Ok (c, question))

-- the commands of the first record, which says n callers, and of the later ones
abbrev pub with_callers : {O Q : Type 0} → ℕ → Result (List (ServedCommand O Q)) BadRecord → Result (List (ServedCommand O Q)) BadRecord
with_callers n later = later >>= λ commands. Ok (command.Serve 1 n ∷ commands)

module _ {O Q : Type 0} (operation_of : List ℕ → Fields → Result O Code) (numbers_in : O → ℕ) (query_of : Fields → Result Q Code) where
  -- what a record behind the first one says, where there are n callers
  unfoldable pub later_command : ℕ → ℕ → Fields → Result (ServedCommand O Q) Code
  later_command n place r =
      if has_verb r (codes "b") then makes₂ (command.Batch place) (caller_operations operation_of numbers_in n r)
      else if has_verb r (codes "r") then makes₂ (command.Read place) (caller_query query_of n r)
      else if has_verb r (codes "round") then makes₀ (command.Round place) (alone r)
      else Err code.Verb

  -- what the records of an input say
  unfoldable pub commands_in : List Fields → Result (List (ServedCommand O Q)) BadRecord
  commands_in [] = Ok []
  commands_in (r ∷ rs) = at_place 1 (callers_of r) >>= λ n. with_callers n (commands_from (later_command n) 2 rs)

  abbrev pub served_commands_of : List ℕ → Result (List (ServedCommand O Q)) BadRecord
  served_commands_of bytes = commands_in (records_of bytes)

module _ {O Q : Type 0} where
  -- the number of a command's record
  abbrev pub place_of : ServedCommand O Q → ℕ
  place_of (command.Serve place n) = place
  place_of (command.Batch place c ops) = place
  place_of (command.Read place c question) = place
  place_of (command.Round place) = place

  -- a batch has an operation, and batches and reads are by one of n callers
  abbrev pub IsOfCaller : ℕ → ServedCommand O Q → Type 0
  IsOfCaller n (command.Serve place m) = ⊥
  IsOfCaller n (command.Batch place c ops) = (c < n) × (1 ≤ length ops)
  IsOfCaller n (command.Read place c question) = c < n
  IsOfCaller n (command.Round place) = Unit {0}

  -- the first command says that there are 1 to 64 callers, and the others are of these
  abbrev pub HasCallers : List (ServedCommand O Q) → Type 0
  HasCallers [] = Unit {0}
  HasCallers (command.Serve place n ∷ commands) = (1 ≤ n) × (n ≤ 64) × AllByRecursion (IsOfCaller n) commands
  HasCallers (command.Batch place c ops ∷ commands) = ⊥
  HasCallers (command.Read place c question ∷ commands) = ⊥
  HasCallers (command.Round place ∷ commands) = ⊥

  -- what whoever runs an input's commands may rely on: so are the callers, and the records are numbered from 1
  pub record IsServeInput (commands : List (ServedCommand O Q)) : Type 0 where
    pub callers : HasCallers commands
    pub places : map place_of commands ≡ range_with_len 1 (length commands)
