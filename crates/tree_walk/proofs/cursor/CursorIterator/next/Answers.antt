use Rattle.std.proofs.Common.{sym, ◌∙◌, arith}
use Rattle.tree_walk.proofs.Fronts.{slice_first}
use Rattle.tree_walk.proofs.cursor.CursorIterator.next.Goals as goal

pub returns-clause-steps : goal.returns-clause-steps
returns-clause-steps g c =
    let cursor = c.self.inside in
    let takes = c.take_next-entry.ensures.entry in
    let first = slice_first cursor.tree.now.entries cursor.at cursor.end takes.0 (omega (arith, c.if-self.false)) takes.1 in
    (takes.0, sym c.self.view_is ∙ first, takes.2, λ never. c.take_next-entry.ensures.succeeds never.0 never.1)
