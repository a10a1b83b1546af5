use Rattle.row_leaf.proofs.Cells.{weight_begins, after_cell}
use Rattle.row_leaf.proofs.cell.column_at.Goals as goal

pub code_end-requires : goal.code_end-requires
code_end-requires c = weight_begins _ _ c.requires _ c.number_at-column.ensures.after

pub returns-clause-after : goal.returns-clause-after
returns-clause-after c = after_cell _ _ c.requires _ c.number_at-column.ensures.after _ c.code_end.ensures
