use Rattle.std.proofs.Common.{sym, ap, ◌∙◌}
use Rattle.std.proofs.lemmas.Result.{IfOk-weaker}
use Rattle.map_model.specs.Parts.{select}
use Rattle.ord_map.proofs.Nearby.{ceiling_place}
use Rattle.ord_map.proofs.map.OrdMap.ceiling.Goals as goal

pub returns-clause-value : goal.returns-clause-value
returns-clause-value g c =
    let entries = c.args.self.now in
    IfOk-weaker c.select.result _ _ (λ entry is. is ∙ ap (select entries) c.rank.ensures ∙ sym (ceiling_place g.met.A.Key.Ord.total entries c.args.key.now c.len-number.ensures.increasing)) c.select.ensures.value
