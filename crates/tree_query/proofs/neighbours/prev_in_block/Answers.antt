use Rattle.std.proofs.Common.{◌-◌, sym, ap, ◌∙◌, arith}
use Rattle.std.specs.List.{slice_get}
use Rattle.std.proofs.lemmas.Result.{IfOk-weaker}
use Rattle.tree_query.proofs.Blocks.{prev_before}
use Rattle.tree_query.proofs.neighbours.prev_in_block.Goals as goal

pub returns-else-before-eq0-clause-value : goal.returns-else-before-eq0-clause-value
returns-else-before-eq0-clause-value g c =
    let entries = g.L.Leaf.entries c.args.leaf.now in
    let before = prev_before g.met.K.Ord.total entries c.args.key.now c.requires.increasing (omega (arith, c.seek-before.ensures.at, c.if-before-eq0.false)) in
    IfOk-weaker c.owned.result _ _ (λ x h. h ∙ c.get_at.ensures ∙ ap (λ at. slice_get entries (at - 1)) c.seek-before.ensures.at ∙ sym before) c.owned.ensures.value
