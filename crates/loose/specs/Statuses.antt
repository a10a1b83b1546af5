-- What a call's status says, of a handle that is none where it is closed, and a value where it is open.
use Rattle.std.specs.Prelude.{◌≡◌, ◌⊎◌, ℕ, Option, None, Some}

-- what a handle becomes, or none where the call is refused: 4 where it is refused, else 0 where it becomes that, or 7 for want
-- of memory; but at 0 the handle is as it was
abbrev pub Becomes : {X : Type 0} → Option X → ℕ → Option X → Option X → Type 0
Becomes None status before after = (status ≡ 4) × (after ≡ before)
Becomes (Some next) status before after = ((status ≡ 0) × (after ≡ Some next)) ⊎ ((status ≡ 7) × (after ≡ before))

-- the answer, if there is one: 0 and it is written, or 1 and what stood there stays
abbrev pub Written : {X : Type 0} → Option X → ℕ → X → X → Type 0
Written None status before after = (status ≡ 1) × (after ≡ before)
Written (Some answer) status before after = (status ≡ 0) × (after ≡ answer)

-- the answer of an open handle, none where it is closed: 4 where it is closed, and what stood there stays
abbrev pub Answers : {X : Type 0} → Option (Option X) → ℕ → X → X → Type 0
Answers None status before after = (status ≡ 4) × (after ≡ before)
Answers (Some answer) status before after = Written answer status before after

-- what is made, unless the handle that it goes into is open
abbrev pub into : {X Y : Type 0} → Option X → Option Y → Option Y
into None made = made
into (Some _) made = None

-- what two open handles make
abbrev pub both : {X Y Z : Type 0} → (X → Y → Z) → Option X → Option Y → Option Z
both f (Some x) (Some y) = Some (f x y)
both f _ _ = None
