use Rattle.std.proofs.Common.{ap, sym, ◌∙◌, Some, drop}
use Rattle.gap_code.specs.Code.{code}
use Rattle.row_leaf.specs.Code.{cell, cell_bytes, cell_of}
use Rattle.row_leaf.proofs.seek.pass.Goals as goal

pub returns-clause-entry : goal.returns-clause-entry
returns-clause-entry c =
    let weight = (cell_of (drop c.entry_start-row.result.1 (code cell_bytes c.args.gaps.now))).weight in
    let column = rw c.code.ensures at c.column_at-column.ensures.value in
    (weight, c.entry_start-row.ensures.entry ∙ ap (λ n. Some (c.entry_start-row.result.0, cell n weight)) (sym column))
