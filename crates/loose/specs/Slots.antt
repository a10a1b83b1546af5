-- What a handle owns.
use Rattle.std.specs.Prelude.{ℕ, Option, None, Some}
use mir.Syntax.{Ty}
use base.Fml.{Fml, ftrue}
use denote.RattleType.{RattleType}
use denote.RawPtr.{Ptr}
use Rattle.std_alloc.specs.Box.Ownership.{box_owns}

-- nothing, or the value of type R in a block of its own
abbrev pub slot_owns : (Ty → Ptr → Fml) → (R : RattleType) → Ptr → Option R.Denot → Fml
slot_owns holds R p None = ftrue
slot_owns holds R p (Some x) = box_owns holds R p x

-- the number that C finds in a handle: 0 where it is closed, and 1 where it is open
abbrev pub state_of : {X : Type 0} → Option X → ℕ
state_of None = 0
state_of (Some _) = 1
