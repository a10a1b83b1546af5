-- How a run ends that has a text.
use Rattle.std.specs.Prelude.{◌≡◌, ◌⊎◌, [], ℕ, List, Result, Ok, Err}
use Rattle.script.specs.Lines.{IsPrefix}
use Rattle.pam_top.specs.declared.status.Status.{Status}
use Rattle.pam_top.specs.declared.status.Status.TheVariants as status

-- the statuses that have a text: replies, or the line of a bad record
abbrev pub HasText : Status → Type 0
HasText status.Ok = Unit {0}
HasText status.BadRecord = Unit {0}
HasText status.Usage = ⊥
HasText status.TooLarge = ⊥
HasText status.ReadFault = ⊥
HasText status.WriteFault = ⊥
HasText status.NoMemory = ⊥

-- where there is a text for a status, it is written and the run ends with this status, or a first part of it is and the sink failed
abbrev pub Tells : {V E : Type 0} → (V → List ℕ) → Status → Result V E → Status → List ℕ → Type 0
Tells items told (Ok text) end front = ((end ≡ told) × (front ≡ items text)) ⊎ ((end ≡ status.WriteFault) × IsPrefix front (items text))
Tells items told (Err e) end front = (end ≡ status.NoMemory) × (front ≡ [])
