-- What the commands that are read keep, shape by shape and row by row.
use Rattle.std.proofs.Common.{◌+◌, ℕ, List, [], ◌∷◌, Result, Ok, Err, IfOk, Bool, cond}
use Rattle.std.specs.List.{AllByRecursion}
use Rattle.script.proofs.Chosen.{either_way}
use Rattle.script.specs.InOrder.{commands_from}
use Rattle.script.specs.Records.{Fields}
use Rattle.script.specs.Results.{◌>>=◌, at_place}
use Rattle.script.specs.Rows.{makes₁, makes₂, makes₃, makes₄}
use Rattle.script.specs.declared.fault.Code.{Code}
use Rattle.script.specs.declared.fault.Code.TheVariants as code

-- what holds of each value that goes on holds of the end
pub ok_then : {A B E : Type 0} (Q : A → Type 0) (P : B → Type 0) (r : Result A E) (f : A → Result B E) → IfOk r Q → ((x : A) → Q x → IfOk (f x) P) → IfOk (r >>= f) P
ok_then Q P (Ok x) f q h = h x q
ok_then Q P (Err e) f q h = tt

pub then_any : {A B E : Type 0} (P : B → Type 0) (r : Result A E) (f : A → Result B E) → ((x : A) → IfOk (f x) P) → IfOk (r >>= f) P
then_any P (Ok x) f h = h x
then_any P (Err e) f h = tt

-- in a record that doesn't fit nothing is to show
pub where_it_fits : {A : Type 0} (P : A → Type 0) (fits : Bool) (read : Result A Code) → IfOk read P → IfOk (cond fits read (Err code.Fields)) P
where_it_fits P fits read h = either_way (λ r. IfOk r P) fits read (Err code.Fields) h tt

-- a command that is made of fields keeps P, where each of them keeps Q
module _ {M : Type 0} (P : M → Type 0) where
  pub made₁ : {A : Type 0} (Q : A → Type 0) (make : A → M) (read : Result A Code) → IfOk read Q → ((a : A) → Q a → P (make a)) → IfOk (makes₁ make read) P
  made₁ Q make read q h = ok_then Q P read _ q h

  pub made₂ : {A B : Type 0} (Q : A × B → Type 0) (make : A → B → M) (read : Result (A × B) Code) → IfOk read Q → ((f : A × B) → Q f → P (make f.0 f.1)) → IfOk (makes₂ make read) P
  made₂ Q make read q h = ok_then Q P read _ q h

  pub made₃ : {A B C : Type 0} (Q : A × B × C → Type 0) (make : A → B → C → M) (read : Result (A × B × C) Code) → IfOk read Q → ((f : A × B × C) → Q f → P (make f.0 f.1 f.2)) → IfOk (makes₃ make read) P
  made₃ Q make read q h = ok_then Q P read _ q h

  pub made₄ : {A B C D : Type 0} (Q : A × B × C × D → Type 0) (make : A → B → C → D → M) (read : Result (A × B × C × D) Code) → IfOk read Q → ((f : A × B × C × D) → Q f → P (make f.0 f.1 f.2 f.3))
      → IfOk (makes₄ make read) P
  made₄ Q make read q h = ok_then Q P read _ q h

  placed : (place : ℕ) (read : Result M Code) → IfOk read P → IfOk (at_place place read) P
  placed place (Ok c) h = h
  placed place (Err e) h = tt

  -- what holds of the command of each record holds of all
  pub all_keep : (reading : ℕ → Fields → Result M Code) → ((place : ℕ) (r : Fields) → IfOk (reading place r) P) → (place : ℕ) (rs : List Fields) → IfOk (commands_from reading place rs) (AllByRecursion P)
  unfolding commands_from
  all_keep reading keeps place [] = tt
  all_keep reading keeps place (r ∷ rs) =
      ok_then P (AllByRecursion P) (at_place place (reading place r)) _ (placed place (reading place r) (keeps place r))
      (λ c this. ok_then (AllByRecursion P) (AllByRecursion P) (commands_from reading (place + 1) rs) _ (all_keep reading keeps (place + 1) rs) (λ cs more. (this, more)))
