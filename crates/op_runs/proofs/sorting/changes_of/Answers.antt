use Rattle.std.proofs.Common.{[], ◌∷◌, ◌++◌, take, append-nil, sym, ap, ◌∙◌}
use Rattle.std.specs.List.{cons_option, filter_map}
use Rattle.op_runs.specs.declared.op.Op.TheVariants.{Put}
use Rattle.op_runs.specs.Steps.{change_of}
use Rattle.op_runs.proofs.Lists.{filter_map_more}
use Rattle.op_runs.proofs.sorting.changes_of.Goals as goal
use Rattle.op_runs.proofs.sorting.changes_of.Goals.{in-Some+in_ok-push, in_default}

pub loop-op-preserved : goal.loop-op-preserved
loop-op-preserved c =
    let ops = c.args.ops.now in
    let i = c.loop-op.op-index in
    let more = filter_map_more change_of ops i (Put 0 0) c.loop-op-test.true in
    elim c.match-change.branch [
      | in-Some+in_ok-push w ↦ ap (λ v. v.items) w.changes-is ∙ w.in_ok-push.ensures.items ∙ ap (λ xs. xs ++ w.in-Some.change ∷ []) c.loop-op.invariant ∙ ap (λ o. filter_map change_of (take i ops) ++ cons_option o []) w.in-Some.ensures ∙ sym more
      | in_default w ↦ ap (λ v. v.items) w.changes-is ∙ c.loop-op.invariant ∙ sym (more ∙ ap (λ o. filter_map change_of (take i ops) ++ cons_option o []) (sym w.in_default.ensures) ∙ append-nil (filter_map change_of (take i ops)))
    ]
