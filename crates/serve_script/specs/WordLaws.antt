-- The numbers of an operation are fields behind its word.
use Rattle.std.proofs.Common.{◌≤◌, ℕ, Result, Ok, Err, nat_le, length, IfOk, inl, inr}
use Rattle.std.proofs.lemmas.Bool.{cases_Bool, leb-true}
use Rattle.script.specs.Records.{Fields}
use Rattle.script.specs.Shapes.{with_at_least}
use Rattle.script.specs.declared.fault.Code.{Code}

-- what is known holds of each value
always : {A E : Type 0} (P : Type 0) → P → (read : Result A E) → IfOk read (λ a. P)
always P h (Ok a) = h
always P h (Err e) = tt

-- in what is read of at least so many fields, there are so many
pub enough : {A : Type 0} (n : ℕ) (fields : Fields) (read : Result A Code) → IfOk (with_at_least n fields read) (λ a. n ≤ length fields)
enough n fields read = elim (cases_Bool (nat_le n (length fields))) [
  | inl some ↦ rw some (always (n ≤ length fields) (leb-true n (length fields) some) read)
  | inr none ↦ rw none tt
]
