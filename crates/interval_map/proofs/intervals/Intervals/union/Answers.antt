use Rattle.std.proofs.Common.{List, ap, ap₂, subst, sym, ◌∙◌}
use Rattle.std.specs.List.{AllByRecursion}
use Rattle.std.specs.Map.{keys_of}
use Rattle.aug_monoid.specs.declared.pair64.Pair64.{Pair64}
use Rattle.interval_map.specs.Intervals.{IsInterval, with_intervals}
use Rattle.interval_map.proofs.Sets.{keys-union, with_all_ends}
use Rattle.interval_map.proofs.intervals.Intervals.union.Goals as goal

pub invariant_of-result : goal.invariant_of-result
invariant_of-result c =
    let a = c.self.inside.map in
    let b = c.other.inside.map in
    let made = ap keys_of c.in_ok-map.ensures ∙ keys-union (λ v _. v) a b in
    subst (λ (is : List Pair64). AllByRecursion IsInterval is) (sym made) (with_all_ends (keys_of a) (keys_of b) c.self.invariant c.other.invariant)

pub returns : goal.returns
returns c =
    ap keys_of c.in_ok-map.ensures
    ∙ keys-union (λ v _. v) c.self.inside.map c.other.inside.map
    ∙ ap₂ with_intervals c.self.view_is c.other.view_is
