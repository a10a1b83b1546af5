-- The row of a verb: the command that its fields make.
use Rattle.std.specs.Prelude.{ℕ, List, Result, Ok, Bool}
use Rattle.std.specs.Str.{bytes_eq}
use Rattle.script.specs.Fields.{field}
use Rattle.script.specs.Records.{Fields}
use Rattle.script.specs.Results.{◌>>=◌}
use Rattle.script.specs.declared.fault.Code.{Code}

-- the verb of a record
abbrev pub has_verb : Fields → List ℕ → Bool
has_verb r word = bytes_eq (field r 0) word

-- the command that a verb makes alone
abbrev pub makes₀ : {M : Type 0} → M → Result (Unit {0}) Code → Result M Code
makes₀ command read = read >>= λ _. Ok command

-- the command that one to four fields make
abbrev pub makes₁ : {A M : Type 0} → (A → M) → Result A Code → Result M Code
makes₁ make read = read >>= λ a. Ok (make a)

abbrev pub makes₂ : {A B M : Type 0} → (A → B → M) → Result (A × B) Code → Result M Code
makes₂ make read = read >>= λ f. Ok (make f.0 f.1)

abbrev pub makes₃ : {A B C M : Type 0} → (A → B → C → M) → Result (A × B × C) Code → Result M Code
makes₃ make read = read >>= λ f. Ok (make f.0 f.1 f.2)

abbrev pub makes₄ : {A B C D M : Type 0} → (A → B → C → D → M) → Result (A × B × C × D) Code → Result M Code
makes₄ make read = read >>= λ f. Ok (make f.0 f.1 f.2 f.3)
