-- Sixteen registers, each a list of numbers.
use Rattle.std.specs.Prelude.{[], ℕ, List, map, replicate, slice_index_or, slice_set}
use Rattle.seq_core.specs.Contents.{Contents}

abbrev pub Registers : Type 0
Registers = List (List ℕ)

-- the list of a register
abbrev pub register : Registers → ℕ → List ℕ
register rs i = slice_index_or rs i []

-- the registers with this list in this one
abbrev pub with_register : Registers → ℕ → List ℕ → Registers
with_register rs i list = slice_set rs i list

abbrev pub empty_registers : Registers
empty_registers = replicate 16 []

-- the items of sequences
abbrev pub lists_of : List (Contents ℕ) → Registers
lists_of kept = map (λ s. s.items) kept
