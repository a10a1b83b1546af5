use Rattle.std.proofs.Common.{List, ap, ap₂, sym, subst, ◌∙◌}
use Rattle.std.specs.List.{AllByRecursion}
use Rattle.std.specs.Map.{keys_of}
use Rattle.aug_monoid.specs.declared.pair64.Pair64.{Pair64}
use Rattle.interval_map.specs.Intervals.{IsInterval, without_interval}
use Rattle.std.proofs.lemmas.Result.{IfOk-weaker}
use Rattle.interval_map.proofs.Keys.{by_outcome, keys-drop_key, without_ends}
use Rattle.interval_map.proofs.intervals.Intervals.del_mut.Goals as goal

pub invariant_of-self : goal.invariant_of-self
invariant_of-self c =
    let old = c.self.inside.map in
    by_outcome c.del.result c.del.ensures.entries c.del.ensures.kept
    (λ changed. subst (λ (is : List Pair64). AllByRecursion IsInterval is) (sym (ap keys_of changed ∙ keys-drop_key old c.interval.result)) (without_ends (keys_of old) c.interval.result c.self.invariant))
    (λ kept. rw kept c.self.invariant)

pub returns-clause-after : goal.returns-clause-after
returns-clause-after c =
    IfOk-weaker c.del.result _ _ (λ _ changed. ap keys_of changed ∙ keys-drop_key c.self.inside.map c.interval.result ∙ ap₂ without_interval c.self.view_is c.interval.ensures) c.del.ensures.entries
