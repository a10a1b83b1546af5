-- Sequences turned round by halves.
use Rattle.std.specs.Prelude.{◌≡◌, ◌∷◌, ◌++◌, reverse}
use Rattle.std.specs.Borrow.{Bor}
use Rattle.seq_core.specs.Contents.{Contents}

-- the items from the last to the first
abbrev pub IsReversed : {E : Type 0} → Bor (Contents E) → Contents E → Type 0
IsReversed part out = out.items ≡ reverse part.now.items

-- two parts with an item between them
abbrev pub IsAround : {E : Type 0} → Bor (Contents E) → Bor (Contents E) → E → Bor (Contents E) → Type 0
IsAround part front item back = part.now.items ≡ front.now.items ++ item ∷ back.now.items
