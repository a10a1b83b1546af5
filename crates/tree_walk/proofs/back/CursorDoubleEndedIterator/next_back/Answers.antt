use Rattle.std.proofs.Common.{◌≡◌, ◌+◌, ◌-◌, sym, ap, ◌∙◌, arith}
use Rattle.std.specs.List.{slice_range}
use Rattle.tree_walk.proofs.Fronts.{slice_last}
use Rattle.tree_walk.proofs.back.CursorDoubleEndedIterator.next_back.Goals as goal

pub returns-clause-steps : goal.returns-clause-steps
returns-clause-steps g c =
    let cursor = c.self.inside in
    let es = cursor.tree.now.entries in
    let takes = c.take_last-entry.ensures.entry in
    let on : cursor.end ≡ cursor.end - 1 + 1 = omega (arith, c.if-self.false) in
    let last = slice_last es cursor.at (cursor.end - 1) takes.0 (omega (arith, c.if-self.false)) takes.1 in
    (takes.0, sym c.self.view_is ∙ ap (slice_range es cursor.at) on ∙ last, takes.2, λ never. c.take_last-entry.ensures.succeeds never.0 never.1)
