use Rattle.std.proofs.Common.{[], List, map, ap, subst, sym, ◌∙◌}
use Rattle.std.specs.List.{AllByRecursion}
use Rattle.std.specs.Map.{keys_of}
use Rattle.aug_monoid.specs.declared.pair64.Pair64.{Pair64}
use Rattle.interval_map.specs.Intervals.{IsInterval, with_intervals}
use Rattle.interval_map.specs.Numbers.{interval_of}
use Rattle.interval_map.proofs.Listed.{numbers-set}
use Rattle.interval_map.proofs.Sets.{with_all_ends}
use Rattle.interval_map.proofs.intervals.Intervals.from_intervals.Goals as goal

pub invariant_of-result : goal.invariant_of-result
invariant_of-result c =
    let set = numbers-set c.args.intervals.now c.in_ok-numbers.numbers.items c.requires c.in_ok-numbers.ensures in
    let made = ap keys_of c.from_map.ensures ∙ c.in_ok-map.ensures ∙ ap (λ ns. with_intervals [] (map interval_of ns)) c.deref.ensures.value ∙ set in
    subst (λ (is : List Pair64). AllByRecursion IsInterval is) (sym made) (with_all_ends [] c.args.intervals.now tt c.requires)

pub returns : goal.returns
returns c =
    let set = numbers-set c.args.intervals.now c.in_ok-numbers.numbers.items c.requires c.in_ok-numbers.ensures in
    ap keys_of c.from_map.ensures ∙ c.in_ok-map.ensures ∙ ap (λ ns. with_intervals [] (map interval_of ns)) c.deref.ensures.value ∙ set
