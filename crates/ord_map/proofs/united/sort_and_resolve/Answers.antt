use Rattle.std.proofs.Common.{◌∙◌}
use Rattle.std.proofs.lemmas.Result.{IfOk-weaker}
use Rattle.ord_map.proofs.Turns.{in_turn-stable}
use Rattle.ord_map.proofs.united.sort_and_resolve.Goals as goal

pub returns-clause-value : goal.returns-clause-value
returns-clause-value g c =
    let f = g.H.Resolve.resolved c.args.how.now in
    IfOk-weaker c.resolve_all.result _ _ (λ out is. is ∙ in_turn-stable g.met.K.Ord.total g.met.K.Key.exact f c.args.entries.items c.in_ok-sorted.sorted.items c.in_ok-sorted.ensures.stable) c.resolve_all.ensures.value
