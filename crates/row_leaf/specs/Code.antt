-- Entries at places (row, column), and their code: for each the bytes of the gap from the row before, of the column and of the weight.
use Rattle.std.specs.Prelude.{ℕ, ◌<◌, ◌^◌, List, ◌++◌, length, drop, map}
use Rattle.aug_monoid.specs.declared.pair64.Pair64.{Pair64}
use Rattle.gap_code.specs.Code.{code}
use Rattle.gap_code.specs.Leb.{leb, number_of}
use Rattle.row_leaf.specs.declared.cell.Cell.{Cell}

abbrev pub cell : ℕ → ℕ → Cell
cell column weight = record { column = column; weight = weight }

-- both are numbers of 64 bits
abbrev pub CellFits : Cell → Type 0
CellFits c = (c.column < 2 ^ 64) × (c.weight < 2 ^ 64)

-- the bytes of a cell, and the cell at the start of some bytes
abbrev pub cell_bytes : Cell → List ℕ
cell_bytes c = leb c.column ++ leb c.weight

abbrev pub cell_of : List ℕ → Cell
cell_of from = cell (number_of from) (number_of (drop (length (leb (number_of from))) from))

-- an entry as a row with a cell, and back
abbrev pub row_entry : Pair64 × ℕ → ℕ × Cell
row_entry e = (e.0.first, cell e.0.second e.1)

abbrev pub place_entry : ℕ × Cell → Pair64 × ℕ
place_entry e = (record { first = e.0; second = e.1.column }, e.1.weight)

-- the code of entries
abbrev pub row_code : List (Pair64 × ℕ) → List ℕ
row_code entries = code cell_bytes (map row_entry entries)
