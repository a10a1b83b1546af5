use Rattle.std.proofs.Common.{◌-◌, sym, ap, ◌∙◌, arith}
use Rattle.std.specs.List.{slice_get}
use Rattle.std.proofs.lemmas.Result.{IfOk-weaker}
use Rattle.tree_query.proofs.Blocks.{last_place}
use Rattle.tree_query.proofs.neighbours.last.Goals as goal

pub returns-else-size-eq0-clause-value : goal.returns-else-size-eq0-clause-value
returns-else-size-eq0-clause-value g c =
    let entries = c.args.tree.now.entries in
    let final = last_place entries (omega (arith, c.size-size.ensures.value, c.if-size-eq0.false)) in
    IfOk-weaker c.select.result _ _ (λ x h. h ∙ ap (λ at. slice_get entries (at - 1)) c.size-size.ensures.value ∙ sym final) c.select.ensures.value
