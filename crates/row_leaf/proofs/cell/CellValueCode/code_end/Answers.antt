use Rattle.row_leaf.proofs.Cells.{weight_begins, after_cell}
use Rattle.row_leaf.proofs.cell.CellValueCode.code_end.Goals as goal

pub code_end-requires : goal.code_end-requires
code_end-requires c = weight_begins _ _ c.requires _ c.code_end-middle.ensures

pub returns : goal.returns
returns c = after_cell _ _ c.requires _ c.code_end-middle.ensures _ c.code_end.ensures
