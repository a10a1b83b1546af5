-- Sixteen registers, each a map from numbers to numbers.
use Rattle.std.specs.Prelude.{[], ℕ, List, map, replicate, slice_index_or, slice_set}
use Rattle.map_model.specs.Contents.{Contents}

abbrev pub Registers : Type 0
Registers = List (List (ℕ × ℕ))

-- the map of a register
abbrev pub register : Registers → ℕ → List (ℕ × ℕ)
register rs i = slice_index_or rs i []

-- the registers with this map in this one
abbrev pub with_register : Registers → ℕ → List (ℕ × ℕ) → Registers
with_register rs i m = slice_set rs i m

abbrev pub empty_registers : Registers
empty_registers = replicate 16 []

-- the entries of maps
abbrev pub maps_of : List (Contents ℕ ℕ) → Registers
maps_of kept = map (λ m. m.entries) kept
