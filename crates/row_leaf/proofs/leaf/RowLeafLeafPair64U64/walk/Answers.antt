use Rattle.std.proofs.Common.{◌∙◌, ℕ, List, ap, map, sym, subst}
use Rattle.gap_code.specs.Code.{IsPlaceOf}
use Rattle.row_leaf.specs.declared.cell.Cell.{Cell}
use Rattle.row_leaf.specs.Code.{cell_bytes, row_entry}
use Rattle.row_leaf.specs.CodeLaws.{rows_again}
use Rattle.row_leaf.proofs.leaf.RowLeafLeafPair64U64.walk.Goals as goal

pub returns-clause-fits : goal.returns-clause-fits
returns-clause-fits c =
    let seen = sym (rows_again c.self.inside.gaps) ∙ ap (map row_entry) c.self.view_is in
    let P : List (ℕ × Cell) → Type 0 = λ es. IsPlaceOf cell_bytes es c.first_place.result in
    subst P seen c.first_place.ensures.place
