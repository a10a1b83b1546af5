use Rattle.std.proofs.Common.{List, ap, ap₂, subst, sym, ◌∙◌}
use Rattle.std.specs.List.{AllByRecursion}
use Rattle.std.specs.Map.{keys_of}
use Rattle.aug_monoid.specs.declared.pair64.Pair64.{Pair64}
use Rattle.interval_map.specs.Intervals.{IsInterval, common_intervals, is_among}
use Rattle.interval_map.proofs.Keys.{all_filter}
use Rattle.interval_map.proofs.Sets.{keys-intersect}
use Rattle.interval_map.proofs.intervals.Intervals.intersection.Goals as goal

pub invariant_of-result : goal.invariant_of-result
invariant_of-result c =
    let a = c.self.inside.map in
    let b = c.other.inside.map in
    let made = ap keys_of c.in_ok-map.ensures ∙ keys-intersect (λ v _. v) a b in
    subst (λ (is : List Pair64). AllByRecursion IsInterval is) (sym made) (all_filter IsInterval (λ i. is_among i (keys_of b)) (keys_of a) c.self.invariant)

pub returns : goal.returns
returns c =
    ap keys_of c.in_ok-map.ensures
    ∙ keys-intersect (λ v _. v) c.self.inside.map c.other.inside.map
    ∙ ap₂ common_intervals c.self.view_is c.other.view_is
