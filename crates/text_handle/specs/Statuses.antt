-- What a call's status says that only reads, and may be refused memory.
use Rattle.std.specs.Prelude.{◌≡◌, ◌⊎◌, ℕ, Option, None, Some}
use Rattle.loose.specs.Statuses.{Written}

-- the answer of an open handle, none where it is closed: 4 where it is closed; 7 for want of memory; else as `Written`. What stood there
-- stays but at 0
abbrev pub Tells : {X : Type 0} → Option (Option X) → ℕ → X → X → Type 0
Tells None status before after = (status ≡ 4) × (after ≡ before)
Tells (Some answer) status before after = ((status ≡ 7) × (after ≡ before)) ⊎ Written answer status before after
