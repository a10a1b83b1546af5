use Rattle.std.proofs.Common.{Some, ap, ◌∙◌}
use Rattle.std.proofs.lemmas.Result.{IfOk-weaker}
use Rattle.std.specs.Map.{keys_of}
use Rattle.aug_monoid.specs.declared.pair64.Pair64.{Pair64}
use Rattle.map_model.specs.Fold.{aug_filter}
use Rattle.interval_map.specs.Ends.{reaches}
use Rattle.interval_map.specs.Intervals.{overlap}
use Rattle.interval_map.proofs.Heights.{overlap_tests}
use Rattle.interval_map.proofs.Hits.{keys-overlap}
use Rattle.interval_map.proofs.intervals.Intervals.overlap_counted.Goals as goal

pub returns-clause-hits : goal.returns-clause-hits
returns-clause-hits g c =
    let entries = c.into_map-part.ensures ∙ c.in_ok-begun.ensures in
    let hit = c.from_map.ensures ∙ c.in_ok-hits.ensures.entries ∙ ap (aug_filter (λ (key : Pair64) _. Some key.second) (reaches c.args.lo)) entries in
    let known = keys-overlap c.self.inside.map c.args.lo c.args.hi c.self.invariant in
    IfOk-weaker c.keys.result _ _ (λ keys same. same ∙ ap keys_of hit ∙ known ∙ ap (λ is. overlap is c.args.lo c.args.hi) c.self.view_is) c.keys.ensures

pub returns-clause-cost : goal.returns-clause-cost
returns-clause-cost g c height highest =
    overlap_tests c.self.inside.map c.into_map-part.result.entries c.args.self.now c.args.lo c.args.hi c.into_map-part.result.height height c.args.tests.now c.aug_filter_counted.new.tests c.self.invariant c.self.view_is (c.into_map-part.ensures ∙ c.in_ok-begun.ensures) c.height-height.ensures.law highest c.in_ok-hits.ensures.cost

pub returns-in_err-hits-clause-cost : goal.returns-in_err-hits-clause-cost
returns-in_err-hits-clause-cost g c height highest =
    overlap_tests c.self.inside.map c.into_map-part.result.entries c.args.self.now c.args.lo c.args.hi c.into_map-part.result.height height c.args.tests.now c.aug_filter_counted.new.tests c.self.invariant c.self.view_is (c.into_map-part.ensures ∙ c.in_ok-begun.ensures) c.height-height.ensures.law highest c.in_err-hits.ensures.cost
