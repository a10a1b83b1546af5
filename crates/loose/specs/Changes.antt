-- What a call's status says that changes what need not be there.
use Rattle.std.specs.Prelude.{◌≡◌, ◌⊎◌, ℕ, Option, None, Some}
use Rattle.loose.specs.Statuses.{Becomes}

-- 4 where the handle is closed; 1 where what is to change isn't there, and nothing changes; else as `Becomes`
abbrev pub ChangesThere : {X : Type 0} → (X → Type 0) → (X → X) → ℕ → Option X → Option X → Type 0
ChangesThere There next status None after = (status ≡ 4) × (after ≡ None)
ChangesThere There next status (Some x) after = (There x × Becomes (Some (next x)) status (Some x) after) ⊎ (¬ There x × (status ≡ 1) × (after ≡ Some x))
