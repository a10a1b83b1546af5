use Rattle.std.proofs.Common.{List, sym, subst, ◌∙◌, arith}
use Rattle.std.specs.List.{AllByRecursion}
use Rattle.aug_monoid.specs.declared.pair64.Pair64.{Pair64}
use Rattle.interval_map.specs.Intervals.{IsInterval}
use Rattle.interval_handle.proofs.Asked.{all_intervals}
use Rattle.interval_handle.proofs.wholes.set_of.Goals as goal

pub from_intervals-requires : goal.from_intervals-requires
from_intervals-requires c =
    let given = c.deref.ensures.value ∙ c.in_ok-pairs.ensures in
    let all = all_intervals c.args.lefts.now c.args.rights.now (λ k. omega (arith, c.type_inv.rights k)) c.requires in
    subst (λ (is : List Pair64). AllByRecursion IsInterval is) (sym given) all
