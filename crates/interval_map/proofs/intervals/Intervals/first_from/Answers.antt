use Rattle.std.proofs.Common.{take, ap, ap₂, ◌∙◌}
use Rattle.std.proofs.lemmas.Result.{IfOk-weaker}
use Rattle.std.specs.Map.{keys_of}
use Rattle.std.specs.Ordering.{is_ge}
use Rattle.aug_monoid.specs.Exact.{pair64_cmp}
use Rattle.interval_map.specs.Intervals.{intervals_from}
use Rattle.interval_map.proofs.Keys.{keys-filter}
use Rattle.interval_map.proofs.intervals.Intervals.first_from.Goals as goal

pub returns : goal.returns
returns c =
    let begun = keys-filter (λ j. is_ge (pair64_cmp j c.interval.result)) c.self.inside.map in
    let rest = ap keys_of c.in_ok-rest.ensures ∙ begun ∙ ap₂ intervals_from c.self.view_is c.interval.ensures in
    IfOk-weaker c.first_keys.result _ _ (λ keys same. same ∙ ap (take c.args.count) rest) c.first_keys.ensures
