use Rattle.std.proofs.Common.{◌≡◌, ◌↔◌, IsTrue, List, [], ap, subst, ◌∙◌}
use Rattle.aug_monoid.specs.declared.pair64.Pair64.{Pair64}
use Rattle.interval_map.specs.Ends.{reaches}
use Rattle.interval_map.specs.Intervals.{overlap}
use Rattle.interval_map.proofs.Hits.{covers_hits}
use Rattle.interval_map.proofs.intervals.Intervals.any_overlapping.Goals as goal

pub returns : goal.returns
returns c =
    let right = rw (c.in-Ok.is, c.interval.ensures) at c.fold_to.ensures.value in
    subst (λ (is : List Pair64). IsTrue c.passes.result ↔ ¬ (overlap is c.args.lo c.args.hi ≡ [])) c.self.view_is
    (covers_hits c.self.inside.map c.args.lo c.args.hi c.passes.result c.self.invariant (c.passes.ensures ∙ ap (reaches c.args.lo) right))
