-- Values that combine alike in either order.
use Rattle.std.specs.Prelude.{◌≡◌}

-- over the values that fit, which of two comes first makes no difference to their combination
abbrev pub IsCommutativeOver : {X : Type 0} → (X → Type 0) → (X → X → X) → Type 0
IsCommutativeOver {X} Fits combine = (a b : X) → Fits a → Fits b → combine a b ≡ combine b a
