use Rattle.std.proofs.Common.{◌↔◌, IsTrue, Contains, List, subst}
use Rattle.aug_monoid.specs.declared.pair64.Pair64.{Pair64}
use Rattle.interval_map.proofs.Sets.{has_interval}
use Rattle.interval_map.proofs.intervals.Intervals.contains.Goals as goal

pub returns : goal.returns
returns c =
    let found = rw c.in-Ok.is at c.contains_key.ensures.value in
    let known = has_interval c.self.inside.map c.interval.result c.in-Ok.found found in
    subst (λ (i : Pair64). IsTrue c.in-Ok.found ↔ Contains c.args.self.now i) c.interval.ensures
    (subst (λ (is : List Pair64). IsTrue c.in-Ok.found ↔ Contains is c.interval.result) c.self.view_is known)
