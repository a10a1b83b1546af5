use Rattle.std.proofs.Common.{◌∙◌, ℕ, List, Some, ap, ap₂, map, sym, subst}
use Rattle.std.specs.List.{slice_get}
use Rattle.gap_code.specs.Code.{IsPlaceOf}
use Rattle.row_leaf.specs.declared.cell.Cell.{Cell}
use Rattle.row_leaf.specs.Code.{cell, cell_bytes, row_entry}
use Rattle.row_leaf.specs.CodeLaws.{rows_again}
use Rattle.row_leaf.proofs.Seeks.{placed}
use Rattle.row_leaf.proofs.leaf.RowLeafLeafPair64U64.walk_next.Goals as goal

pub entry_at-found-requires-clause-place : goal.entry_at-found-requires-clause-place
entry_at-found-requires-clause-place c =
    let seen = sym (rows_again c.self.inside.gaps) ∙ ap (map row_entry) c.self.view_is in
    let P : List (ℕ × Cell) → Type 0 = λ es. IsPlaceOf cell_bytes es c.args.walk.now in
    subst P (sym seen) c.requires

pub returns-clause-value : goal.returns-clause-value
returns-clause-value c =
    let weight = c.entry_at-found.result.val.weight in
    let got = c.entry_at-found.ensures.entry ∙ ap₂ (λ row column. Some (row, cell column weight)) (sym c.key_at.ensures.first) (sym c.key_at.ensures.second) in
    sym (placed c.self.inside.gaps c.args.walk.now.index c.key_at.result weight got) ∙ ap (λ es. slice_get es c.args.walk.now.index) c.self.view_is

pub returns-clause-fits : goal.returns-clause-fits
returns-clause-fits c =
    let seen = sym (rows_again c.self.inside.gaps) ∙ ap (map row_entry) c.self.view_is in
    let P : List (ℕ × Cell) → Type 0 = λ es. IsPlaceOf cell_bytes es c.entry_at-found.result.next in
    subst P seen c.entry_at-found.ensures.next
