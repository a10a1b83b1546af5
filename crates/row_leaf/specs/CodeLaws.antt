-- A cell is read off its bytes, and an entry off its row and cell.
use Rattle.std.proofs.Common.{◌≡◌, ℕ, List, [], ◌∷◌, ◌++◌, length, drop, map, refl, ap, ap₂, ◌∙◌, ◌≤◌, arith, append_assoc}
use Rattle.std.proofs.lemmas.List.{drop_at, length-map}
use Rattle.aug_monoid.specs.declared.pair64.Pair64.{Pair64}
use Rattle.gap_code.specs.Code.{IsPlace}
use Rattle.gap_code.specs.Leb.{leb, number_of}
use Rattle.gap_code.specs.LebLaws.{number_of-leb}
use Rattle.row_leaf.specs.declared.cell.Cell.{Cell}
use Rattle.row_leaf.specs.Code.{CellFits, cell, cell_bytes, cell_of, place_entry, row_entry}

pub cell_read_back : (c : Cell) (others : List ℕ) → CellFits c → cell_of (cell_bytes c ++ others) ≡ c
cell_read_back c others fits =
    let whole : cell_bytes c ++ others ≡ leb c.column ++ (leb c.weight ++ others) = append_assoc (leb c.column) (leb c.weight) others in
    let column : number_of (cell_bytes c ++ others) ≡ c.column = ap number_of whole ∙ number_of-leb c.column (leb c.weight ++ others) in
    let left : drop (length (leb (number_of (cell_bytes c ++ others)))) (cell_bytes c ++ others) ≡ leb c.weight ++ others =
    ap₂ (λ n t. drop (length (leb n)) t) column whole ∙ drop_at (leb c.column) (leb c.weight ++ others) _ refl in
    ap₂ cell column (ap number_of left ∙ number_of-leb c.weight others)

pub rows_again : (es : List (ℕ × Cell)) → map row_entry (map place_entry es) ≡ es
rows_again [] = refl
rows_again (e ∷ es) = ap (λ t. e ∷ t) (rows_again es)

pub place_within : (es : List (Pair64 × ℕ)) {index byte key : ℕ} → IsPlace cell_bytes (map row_entry es) index byte key → index ≤ length es
place_within es p = omega (arith, p.within, length-map es row_entry)

pub places_again : (es : List (Pair64 × ℕ)) → map place_entry (map row_entry es) ≡ es
places_again [] = refl
places_again (e ∷ es) = ap (λ t. e ∷ t) (places_again es)
