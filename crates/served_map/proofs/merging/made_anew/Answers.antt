use Rattle.std.proofs.Common.{◌∙◌}
use Rattle.std.proofs.lemmas.Result.{IfOk-weaker}
use Rattle.served_map.proofs.Merges.{made_done}
use Rattle.served_map.proofs.merging.made_anew.Goals as goal

pub returns : goal.returns
returns c =
    IfOk-weaker c.build_alone.result _ _ (λ made is.
    made_done c.args.outcomes.now c.args.map.now.entries c.deref.result.now c.in_ok-changed.changed.items c.deref-2.result.now made.entries (c.deref.ensures.value ∙ c.in_ok-entries.ensures) c.in_ok-changed.ensures c.deref-2.ensures.value is) c.build_alone.ensures
