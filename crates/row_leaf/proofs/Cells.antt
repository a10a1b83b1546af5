-- A cell, read off its bytes one number after the other.
use Rattle.std.proofs.Common.{◌≡◌, ℕ, ◌+◌, ◌^◌, ◌<◌, List, ◌++◌, length, drop, refl, sym, ap, ap₂, ◌∙◌, arith, append_assoc, length-append}
use Rattle.std.proofs.lemmas.List.{drop_at, drop-drop}
use Rattle.gap_code.specs.Leb.{leb, number_of, BeginsWith}
use Rattle.gap_code.specs.LebLaws.{number_of-leb}
use Rattle.row_leaf.specs.declared.cell.Cell.{Cell}
use Rattle.row_leaf.specs.Code.{CellFits, cell, cell_bytes, cell_of}
use Rattle.row_leaf.specs.CodeLaws.{cell_read_back}

module _ (from : List ℕ) (at : ℕ) (b : BeginsWith CellFits cell_bytes (drop at from)) where
  first_is : drop at from ≡ leb b.value.column ++ (leb b.value.weight ++ b.others)
  first_is = b.is ∙ append_assoc (leb b.value.column) (leb b.value.weight) b.others

  column_is : number_of (drop at from) ≡ b.value.column
  column_is = ap number_of first_is ∙ number_of-leb b.value.column (leb b.value.weight ++ b.others)

  cell_is : cell_of (drop at from) ≡ b.value
  cell_is = ap cell_of b.is ∙ cell_read_back b.value b.others b.fits

  module _ (middle : ℕ) (m : middle ≡ at + length (leb (number_of (drop at from)))) where
    there : middle ≡ at + length (leb b.value.column)
    there = m ∙ ap (λ n. at + length (leb n)) column_is

    here : drop middle from ≡ leb b.value.weight ++ b.others
    here =
        ap (λ n. drop n from) there ∙ sym (drop-drop (length (leb b.value.column)) at from) ∙ ap (drop (length (leb b.value.column))) first_is ∙ drop_at (leb b.value.column) (leb b.value.weight ++ b.others) _ refl

    weight_is : number_of (drop middle from) ≡ b.value.weight
    weight_is = ap number_of here ∙ number_of-leb b.value.weight b.others

    pub weight_begins : BeginsWith (λ n. n < 2 ^ 64) leb (drop middle from)
    weight_begins = record { value = b.value.weight; others = b.others; fits = b.fits.1; is = here }

    pub read_cell : (column weight : ℕ) → column ≡ number_of (drop at from) → weight ≡ number_of (drop middle from) → cell column weight ≡ cell_of (drop at from)
    read_cell column weight c w = ap₂ cell (c ∙ column_is) (w ∙ weight_is) ∙ sym cell_is

    pub after_cell : (after : ℕ) → after ≡ middle + length (leb (number_of (drop middle from))) → after ≡ at + length (cell_bytes (cell_of (drop at from)))
    after_cell after a =
        omega (arith, a, there, ap (λ n. length (leb n)) weight_is, ap (λ (c : Cell). length (cell_bytes c)) cell_is, length-append (leb b.value.column) (leb b.value.weight))
