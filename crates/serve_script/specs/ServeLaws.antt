-- The numbers of an operation of the tool serve are fields behind its word.
use Rattle.std.proofs.Common.{◌≤◌, ℕ, List, Result, length, codes, IfOk}
use Rattle.std.specs.Str.{bytes_eq}
use Rattle.script.specs.Records.{Fields}
use Rattle.script.specs.declared.fault.Code.{Code}
use Rattle.script.proofs.Chosen.{either_way}
use Rattle.script.proofs.RowFacts.{made₁, made₂}
use Rattle.serve_script.specs.WordLaws.{enough}
use Rattle.serve_script.specs.Serve.{numbers_in, operation_of}
use Rattle.serve_script.specs.Words.{next_number, next_numbers}
use Rattle.op_runs.specs.declared.op.Op.{Op}

pub operation_fits : (word : List ℕ) (fields : Fields) → IfOk (operation_of word fields) (λ operation. numbers_in operation ≤ length fields)
unfolding operation_of
operation_fits word fields =
    let Fits : Op → Type 0 = λ operation. numbers_in operation ≤ length fields in
    let P : Result Op Code → Type 0 = λ read. IfOk read Fits in
    let two : IfOk (next_numbers fields) (λ f. 2 ≤ length fields) = enough 2 fields _ in
    let one : IfOk (next_number fields) (λ f. 1 ≤ length fields) = enough 1 fields _ in
    either_way P (bytes_eq word (codes "put")) _ _ (made₂ Fits (λ f. 2 ≤ length fields) _ _ two (λ f h. h))
    (either_way P (bytes_eq word (codes "del")) _ _ (made₁ Fits (λ f. 1 ≤ length fields) _ _ one (λ f h. h))
    (either_way P (bytes_eq word (codes "add")) _ _ (made₂ Fits (λ f. 2 ≤ length fields) _ _ two (λ f h. h))
    (either_way P (bytes_eq word (codes "wipe")) _ _ (made₂ Fits (λ f. 2 ≤ length fields) _ _ two (λ f h. h))
    tt)))
