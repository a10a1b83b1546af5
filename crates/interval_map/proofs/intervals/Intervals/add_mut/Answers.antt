use Rattle.std.proofs.Common.{List, ap, ap₂, sym, subst, ◌∙◌, arith}
use Rattle.std.specs.List.{AllByRecursion}
use Rattle.std.specs.Map.{keys_of}
use Rattle.aug_monoid.specs.declared.pair64.Pair64.{Pair64}
use Rattle.interval_map.specs.Intervals.{IsInterval, with_interval}
use Rattle.std.proofs.lemmas.Result.{IfOk-weaker}
use Rattle.interval_map.proofs.Keys.{by_outcome, keys-set, with_ends}
use Rattle.interval_map.proofs.intervals.Intervals.add_mut.Goals as goal

pub invariant_of-self : goal.invariant_of-self
invariant_of-self c =
    let old = c.self.inside.map in
    let fits : IsInterval c.interval.result = rw c.interval.ensures (c.requires, omega (arith, c.ranges.right.fits)) in
    by_outcome c.put.result c.put.ensures.entries c.put.ensures.kept
    (λ changed. subst (λ (is : List Pair64). AllByRecursion IsInterval is) (sym (ap keys_of changed ∙ keys-set old c.interval.result tt)) (with_ends (keys_of old) c.interval.result c.self.invariant fits))
    (λ kept. rw kept c.self.invariant)

pub returns-clause-after : goal.returns-clause-after
returns-clause-after c =
    IfOk-weaker c.put.result _ _ (λ _ changed. ap keys_of changed ∙ keys-set c.self.inside.map c.interval.result tt ∙ ap₂ with_interval c.self.view_is c.interval.ensures) c.put.ensures.entries
