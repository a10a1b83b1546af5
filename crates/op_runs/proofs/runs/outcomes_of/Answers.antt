use Rattle.std.proofs.Common.{subst}
use Rattle.std.proofs.lemmas.Result.{IfOk-weaker}
use Rattle.op_runs.specs.Runs.{IsComposed}
use Rattle.op_runs.proofs.Endings.{outcomes_composed}
use Rattle.op_runs.proofs.runs.outcomes_of.Goals as goal

pub returns : goal.returns
returns g c =
    let changes = c.in_ok-changes.changes.items in
    IfOk-weaker c.composed.result _ _ (λ outcomes composed.
    outcomes_composed c.args.ops.now changes outcomes.items (subst (λ xs. IsComposed xs outcomes.items) c.deref.ensures.value composed) c.in_ok-changes.ensures.same c.in_ok-changes.ensures.keys) c.composed.ensures
