-- What reading gives: a value, or what is wrong.
use Rattle.std.specs.Prelude.{◌≡◌, ℕ, Result, Ok, Err}
use Rattle.script.specs.declared.fault.BadRecord.{BadRecord}
use Rattle.script.specs.declared.fault.Code.{Code}
use Rattle.script.specs.declared.fault.RecordFault.{RecordFault}
use Rattle.script.specs.declared.fault.RecordFault.TheVariants as record_fault
use Rattle.script.specs.declared.fault.ScriptFault.{ScriptFault}
use Rattle.script.specs.declared.fault.ScriptFault.TheVariants as fault

infixl 10 ◌>>=◌
abbrev pub ◌>>=◌ : {A B E : Type 0} → Result A E → (A → Result B E) → Result B E
(Ok x) >>= f = f x
(Err e) >>= f = Err e

-- a code, as that of the record at a place
abbrev pub at_place : {A : Type 0} → ℕ → Result A Code → Result A BadRecord
at_place place (Ok x) = Ok x
at_place place (Err c) = Err (record { place = place; code = c })

-- what a function answered is what reading gives, unless memory ran out
abbrev pub Faults : {A : Type 0} → ScriptFault → Result A BadRecord → Type 0
Faults fault.NoMemory read = Unit {0}
Faults (fault.Bad bad) read = read ≡ Err bad

abbrev pub Gives : {A : Type 0} → Result A ScriptFault → Result A BadRecord → Type 0
Gives (Ok x) read = read ≡ Ok x
Gives (Err e) read = Faults e read

-- the same of one record, whose place is not named yet
abbrev pub CodeFaults : {A : Type 0} → RecordFault → Result A Code → Type 0
CodeFaults record_fault.NoMemory read = Unit {0}
CodeFaults (record_fault.Bad c) read = read ≡ Err c

abbrev pub GivesCode : {A : Type 0} → Result A RecordFault → Result A Code → Type 0
GivesCode (Ok x) read = read ≡ Ok x
GivesCode (Err e) read = CodeFaults e read
