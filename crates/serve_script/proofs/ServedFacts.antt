-- The operations so far, and those of the fields that are left; the commands of the first record and the later ones.
use Rattle.std.proofs.Common.{◌≡◌, ◌∙◌, ◌+◌, ◌-◌, ◌<◌, ◌≤◌, ◌++◌, ℕ, zero, suc, List, [], ◌∷◌, Result, Ok, Err, length, drop, get_or, refl, ap, arith, append-nil, IfOk}
use Rattle.std.proofs.lemmas.List.{drop-drop, drop_all, drop_more, length-drop}
use Rattle.script.specs.Records.{Fields}
use Rattle.script.specs.InOrder.{commands_from}
use Rattle.script.specs.declared.fault.BadRecord.{BadRecord}
use Rattle.script.specs.declared.fault.Code.{Code}
use Rattle.script.proofs.CommandFacts.{after, with_front}
use Rattle.serve_script.specs.Served.{callers_of, commands_in, later_command, operations_after, operations_of, with_callers}
use Rattle.serve_script.specs.declared.commands.ServedCommand.{ServedCommand}
use Rattle.serve_script.specs.declared.commands.ServedCommand.TheVariants as command

module _ {O : Type 0} (operation_of : List ℕ → Fields → Result O Code) (numbers_in : O → ℕ) where
  pub operation_within : ((word : List ℕ) (fields : Fields) → IfOk (operation_of word fields) (λ operation. numbers_in operation ≤ length fields))
      → (r : Fields) (at : ℕ) (operation : O) → operation_of (get_or r at []) (drop (at + 1) r) ≡ Ok operation → numbers_in operation ≤ length r - (at + 1)
  operation_within fits r at operation e = rw (← length-drop (at + 1) r) (rw e at (fits (get_or r at []) (drop (at + 1) r)))

  -- numbers of an operation before are passed over
  passed : (numbers : ℕ) (fields : Fields) → operations_after operation_of numbers_in numbers fields ≡ operations_of operation_of numbers_in (drop numbers fields)
  unfolding operations_after
  passed zero [] = refl
  passed zero (f ∷ fs) = refl
  passed (suc numbers) [] = refl
  passed (suc numbers) (f ∷ fs) = passed numbers fs

  pub operations-more : (front : List O) (r : Fields) (at : ℕ) (operation : O) → at < length r → operation_of (get_or r at []) (drop (at + 1) r) ≡ Ok operation
      → with_front front (operations_of operation_of numbers_in (drop at r)) ≡ with_front (front ++ operation ∷ []) (operations_of operation_of numbers_in (drop (at + (1 + numbers_in operation)) r))
  unfolding operations_after
  operations-more front r at operation h e =
      let place : at + 1 + numbers_in operation ≡ at + (1 + numbers_in operation) = omega arith in
      let behind : operations_after operation_of numbers_in (numbers_in operation) (drop (at + 1) r) ≡ operations_of operation_of numbers_in (drop (at + (1 + numbers_in operation)) r) =
      passed (numbers_in operation) (drop (at + 1) r) ∙ ap (operations_of operation_of numbers_in) (drop-drop (numbers_in operation) (at + 1) r ∙ ap (λ n. drop n r) place) in
      ap (λ fields. with_front front (operations_of operation_of numbers_in fields)) (drop_more r at [] h)
      ∙ rw e (after front operation (operations_after operation_of numbers_in (numbers_in operation) (drop (at + 1) r)))
      ∙ ap (with_front (front ++ operation ∷ [])) behind

  pub operations-bad : (front : List O) (r : Fields) (at : ℕ) (c : Code) → at < length r → operation_of (get_or r at []) (drop (at + 1) r) ≡ Err c
      → with_front front (operations_of operation_of numbers_in (drop at r)) ≡ Err c
  unfolding operations_after
  operations-bad front r at c h e = ap (λ fields. with_front front (operations_of operation_of numbers_in fields)) (drop_more r at [] h) ∙ rw e refl

  pub operations-end : (front : List O) (r : Fields) (at : ℕ) → length r ≤ at → with_front front (operations_of operation_of numbers_in (drop at r)) ≡ Ok front
  unfolding operations_after
  operations-end front r at h = rw (drop_all at r h) (ap Ok (append-nil front))

-- the first command, and those behind it
pub callers_front : {O Q : Type 0} (n : ℕ) (later : Result (List (ServedCommand O Q)) BadRecord) → with_callers n later ≡ with_front (command.Serve 1 n ∷ []) later
callers_front n (Ok commands) = refl
callers_front n (Err bad) = refl

-- the first record says how many callers there are, or is bad
module _ {O Q : Type 0} (operation_of : List ℕ → Fields → Result O Code) (numbers_in : O → ℕ) (query_of : Fields → Result Q Code) where
  pub commands-next : (whole : List Fields) (r : Fields) (rs : List Fields) (n : ℕ) → whole ≡ r ∷ rs → callers_of r ≡ Ok n
      → commands_in operation_of numbers_in query_of whole ≡ with_callers n (commands_from (later_command operation_of numbers_in query_of n) 2 rs)
  unfolding commands_in
  commands-next whole r rs n is e = ap (commands_in operation_of numbers_in query_of) is ∙ rw e refl

  pub commands-bad : (whole : List Fields) (r : Fields) (rs : List Fields) (c : Code) → whole ≡ r ∷ rs → callers_of r ≡ Err c → commands_in operation_of numbers_in query_of whole ≡ Err (record { place = 1; code = c })
  unfolding commands_in
  commands-bad whole r rs c is e = ap (commands_in operation_of numbers_in query_of) is ∙ rw e refl

  pub commands-none : (whole : List Fields) → whole ≡ [] → commands_in operation_of numbers_in query_of whole ≡ Ok []
  unfolding commands_in
  commands-none whole is = ap (commands_in operation_of numbers_in query_of) is
