use Rattle.row_leaf.proofs.Cells.{weight_begins, read_cell, after_cell}
use Rattle.row_leaf.proofs.cell.CellValueCode.code_at.Goals as goal

pub number_at-weight-requires : goal.number_at-weight-requires
number_at-weight-requires c = weight_begins _ _ c.requires _ c.number_at-column.ensures.after

pub returns-clause-value : goal.returns-clause-value
returns-clause-value c = read_cell _ _ c.requires _ c.number_at-column.ensures.after _ _ c.number_at-column.ensures.value c.number_at-weight.ensures.value

pub returns-clause-after : goal.returns-clause-after
returns-clause-after c = after_cell _ _ c.requires _ c.number_at-column.ensures.after _ c.number_at-weight.ensures.after
