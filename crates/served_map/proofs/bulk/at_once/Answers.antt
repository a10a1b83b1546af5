use Rattle.std.proofs.Common.{subst}
use Rattle.std.proofs.lemmas.Result.{IfOk-weaker}
use Rattle.op_runs.specs.Runs.{IsChangedBy}
use Rattle.served_map.proofs.bulk.at_once.Goals as goal

pub returns : goal.returns
returns g c =
    let m = c.args.map.entries in
    IfOk-weaker c.with_outcomes.result _ _ (λ changed by.
    c.in_ok-outcomes.ensures.do_them m changed.entries c.size-rises.ensures.increasing (subst (λ o. IsChangedBy o m changed.entries) c.deref.ensures.value by)) c.with_outcomes.ensures
