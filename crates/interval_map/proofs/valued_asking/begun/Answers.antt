use Rattle.std.proofs.Common.{ap, sym, ◌∙◌}
use Rattle.std.proofs.lemmas.Result.{IfOk-weaker}
use Rattle.interval_map.specs.IntervalMaps.{begun}
use Rattle.interval_map.proofs.Reached.{ends_total, no_first, slice-first}
use Rattle.interval_map.proofs.valued_asking.begun.Goals as goal

pub returns : goal.returns
returns g c =
    let most = rw c.in-Some.is at c.in_ok-last.ensures.last in
    let least = sym c.in_ok-first.ensures.value ∙ c.in-Some-2.is in
    IfOk-weaker c.range.result _ _ (λ part is. is ∙ slice-first (ends_total g.met.E.Ord.total) c.args.map.now _ _ c.len-number.ensures.increasing least ∙ most) c.range.ensures

pub returns-in_default-2 : goal.returns-in_default-2
returns-in_default-2 g c =
    c.new-in_default-2.ensures ∙ sym (ap (λ m. begun g.E.Ord.cmp m c.args.hi.now) (no_first c.args.map.now (sym c.in_ok-first.ensures.value ∙ c.in_default-2.is)))
