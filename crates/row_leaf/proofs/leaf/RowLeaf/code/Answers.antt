use Rattle.std.proofs.Common.{sym, ap, ◌∙◌}
use Rattle.gap_code.specs.Code.{code}
use Rattle.row_leaf.specs.Code.{cell_bytes, row_code}
use Rattle.row_leaf.specs.CodeLaws.{rows_again}
use Rattle.row_leaf.proofs.leaf.RowLeaf.code.Goals as goal

pub returns : goal.returns
returns c = c.code.ensures ∙ ap (code cell_bytes) (sym (rows_again c.self.inside.gaps)) ∙ ap row_code c.self.view_is
