-- The commands that are read are as whoever runs them relies on.
use Rattle.std.proofs.Common.{◌≡◌, ◌+◌, ◌<◌, ◌≤◌, [], ◌∷◌, ℕ, List, Option, Some, None, Result, Ok, Err, IfOk, inl, inr, ap, ap₂, arith, drop, length, map, nat_le, nat_lt, codes, refl}
use Rattle.std.specs.List.{AllByRecursion, range_with_len}
use Rattle.std.proofs.lemmas.Bool.{cases_Bool, leb-true, ltb-true}
use Rattle.std.proofs.lemmas.List.{length-drop}
use Rattle.script.proofs.Chosen.{either_way}
use Rattle.script.proofs.RowFacts.{made₂, ok_then, then_any, where_it_fits}
use Rattle.script.specs.InOrder.{commands_from}
use Rattle.script.specs.Fields.{field, or_code}
use Rattle.script.specs.Numbers.{number_of}
use Rattle.script.specs.Records.{Fields}
use Rattle.script.specs.Results.{Gives, at_place}
use Rattle.script.specs.Rows.{has_verb}
use Rattle.script.specs.Shapes.{alone}
use Rattle.serve_script.specs.Served.{IsOfCaller, IsServeInput, caller_in, caller_operations, caller_query, callers_in, callers_of, commands_in, fitting_caller, fitting_callers, later_command, operations_after, operations_of, place_of, with_callers}
use Rattle.script.specs.declared.fault.BadRecord.{BadRecord}
use Rattle.script.specs.declared.fault.Code.{Code}
use Rattle.script.specs.declared.fault.Code.TheVariants as code
use Rattle.script.specs.declared.fault.ScriptFault.{ScriptFault}
use Rattle.serve_script.specs.declared.commands.ServedCommand.{ServedCommand}

abbrev AreCallers : ℕ → Type 0
AreCallers n = (1 ≤ n) × (n ≤ 64)

lawful_callers : (o : Option ℕ) → IfOk (or_code code.Callers (fitting_callers o)) AreCallers
lawful_callers None = tt
lawful_callers (Some n) = elim (cases_Bool (nat_le 1 n)) [
  | inl some ↦ elim (cases_Bool (nat_le n 64)) [
    | inl few ↦ rw (some, few) (leb-true 1 n some, leb-true n 64 few)
    | inr many ↦ rw (some, many) tt
  ]
  | inr none ↦ rw none tt
]

abbrev IsBelow : ℕ → ℕ → Type 0
IsBelow n c = c < n

lawful_caller : (n : ℕ) (o : Option ℕ) → IfOk (or_code code.Caller (fitting_caller n o)) (IsBelow n)
lawful_caller n None = tt
lawful_caller n (Some c) = elim (cases_Bool (nat_lt c n)) [
  | inl under ↦ rw under (ltb-true c n under)
  | inr over ↦ rw over tt
]

first_callers : (r : Fields) → IfOk (callers_of r) AreCallers
unfolding callers_of
first_callers r =
    let P : Result ℕ Code → Type 0 = λ read. IfOk read AreCallers in
    either_way P (has_verb r (codes "serve")) _ _
    (where_it_fits AreCallers _ (callers_in r 1) (lawful_callers (number_of (field r 1)))) tt

placed_callers : (read : Result ℕ Code) → IfOk read AreCallers → IfOk (at_place 1 read) AreCallers
placed_callers (Ok n) h = h
placed_callers (Err e) h = tt

-- what holds of what is read holds of what is given
pub given : {A : Type 0} (P : A → Type 0) (result : Result A ScriptFault) (read : Result A BadRecord) → Gives result read → IfOk read P → IfOk result P
given P (Ok x) read is h = rw is at h
given P (Err e) read is h = tt

module _ {O : Type 0} (operation_of : List ℕ → Fields → Result O Code) (numbers_in : O → ℕ) where
  abbrev Some₁ : List O → Type 0
  Some₁ operations = 1 ≤ length operations

  -- where there are fields, there is an operation
  some_operations : (fields : Fields) → 1 ≤ length fields → IfOk (operations_of operation_of numbers_in fields) Some₁
  unfolding operations_after
  some_operations [] h = omega arith
  some_operations (f ∷ fs) h =
      then_any Some₁ (operation_of f fs) _ (λ operation. then_any Some₁ (operations_after operation_of numbers_in (numbers_in operation) fs) _ (λ operations. omega arith))

  abbrev IsBatch : ℕ → ℕ × List O → Type 0
  IsBatch n f = (f.0 < n) × (1 ≤ length f.1)

  batch_fields : (n : ℕ) (r : Fields) → IfOk (caller_operations operation_of numbers_in n r) (IsBatch n)
  batch_fields n r = elim (cases_Bool (nat_le 3 (length r))) [
    | inl some ↦
        let more : 3 ≤ length r = leb-true 3 (length r) some in
        let behind : 1 ≤ length (drop 2 r) = rw (length-drop 2 r) (omega arith) in
        rw some (ok_then (IsBelow n) (IsBatch n) (caller_in n r 1) _ (lawful_caller n (number_of (field r 1)))
        (λ c below. ok_then Some₁ (IsBatch n) (operations_of operation_of numbers_in (drop 2 r)) _ (some_operations (drop 2 r) behind) (λ operations is. (below, is))))
    | inr none ↦ rw none tt
  ]

module _ {O Q : Type 0} (operation_of : List ℕ → Fields → Result O Code) (numbers_in : O → ℕ) (query_of : Fields → Result Q Code) where
  abbrev IsQuestion : ℕ → ℕ × Q → Type 0
  IsQuestion n f = f.0 < n

  query_fields : (n : ℕ) (r : Fields) → IfOk (caller_query query_of n r) (IsQuestion n)
  query_fields n r =
      where_it_fits (IsQuestion n) (nat_le 3 (length r)) _ (ok_then (IsBelow n) (IsQuestion n) (caller_in n r 1) _ (lawful_caller n (number_of (field r 1)))
      (λ c below. then_any (IsQuestion n) (query_of r) _ (λ question. below)))

  abbrev IsLater : ℕ → ℕ → ServedCommand O Q → Type 0
  IsLater n place c = (place_of c ≡ place) × IsOfCaller n c

  later : (n place : ℕ) (r : Fields) → IfOk (later_command operation_of numbers_in query_of n place r) (IsLater n place)
  unfolding later_command
  later n place r =
      let P : Result (ServedCommand O Q) Code → Type 0 = λ read. IfOk read (IsLater n place) in
      either_way P (has_verb r (codes "b")) _ _ (made₂ (IsLater n place) (IsBatch operation_of numbers_in n) _ _ (batch_fields operation_of numbers_in n r) (λ f h. (refl, h)))
      (either_way P (has_verb r (codes "r")) _ _ (made₂ (IsLater n place) (IsQuestion n) _ _ (query_fields n r) (λ f h. (refl, h)))
      (either_way P (has_verb r (codes "round")) _ _ (then_any (IsLater n place) (alone r) _ (λ f. (refl, tt)))
      tt))

  placed : (n place : ℕ) (read : Result (ServedCommand O Q) Code) → IfOk read (IsLater n place) → IfOk (at_place place read) (IsLater n place)
  placed n place (Ok c) h = h
  placed n place (Err e) h = tt

  abbrev AreLater : ℕ → ℕ → List (ServedCommand O Q) → Type 0
  AreLater n place commands = AllByRecursion (IsOfCaller n) commands × (map place_of commands ≡ range_with_len place (length commands))

  all_later : (n place : ℕ) (rs : List Fields) → IfOk (commands_from (later_command operation_of numbers_in query_of n) place rs) (AreLater n place)
  unfolding commands_from
  all_later n place [] = (tt, refl)
  all_later n place (r ∷ rs) =
      ok_then (IsLater n place) (AreLater n place) (at_place place (later_command operation_of numbers_in query_of n place r)) _ (placed n place (later_command operation_of numbers_in query_of n place r) (later n place r))
      (λ c this. ok_then (AreLater n (place + 1)) (AreLater n place) (commands_from (later_command operation_of numbers_in query_of n) (place + 1) rs) _ (all_later n (place + 1) rs)
      (λ cs more. ((this.1, more.0), ap₂ (λ i is. i ∷ is) this.0 more.1)))

  whole : (n : ℕ) (read : Result (List (ServedCommand O Q)) BadRecord) → AreCallers n → IfOk read (AreLater n 2) → IfOk (with_callers n read) IsServeInput
  whole n (Ok commands) few rest = record { callers = (few.0, few.1, rest.0); places = ap (λ is. 1 ∷ is) rest.1 }
  whole n (Err bad) few rest = tt

  -- the commands of any records
  pub lawful_input : (rs : List Fields) → IfOk (commands_in operation_of numbers_in query_of rs) IsServeInput
  unfolding commands_in
  lawful_input [] = record { callers = tt; places = refl }
  lawful_input (r ∷ rs) =
      ok_then AreCallers IsServeInput (at_place 1 (callers_of r)) _ (placed_callers (callers_of r) (first_callers r))
      (λ n few. whole n (commands_from (later_command operation_of numbers_in query_of n) 2 rs) few (all_later n 2 rs))
