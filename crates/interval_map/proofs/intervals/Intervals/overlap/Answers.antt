use Rattle.std.proofs.Common.{Some, ap, ◌∙◌}
use Rattle.std.proofs.lemmas.Result.{IfOk-weaker}
use Rattle.std.specs.Map.{keys_of}
use Rattle.aug_monoid.specs.declared.pair64.Pair64.{Pair64}
use Rattle.map_model.specs.Fold.{aug_filter}
use Rattle.interval_map.specs.Ends.{reaches}
use Rattle.interval_map.specs.Intervals.{overlap}
use Rattle.interval_map.proofs.Hits.{keys-overlap}
use Rattle.interval_map.proofs.intervals.Intervals.overlap.Goals as goal

pub returns : goal.returns
returns c =
    let hit = c.in_ok-hits.ensures ∙ ap (aug_filter (λ (key : Pair64) _. Some key.second) (reaches c.args.lo)) c.in_ok-begun.ensures in
    let known = keys-overlap c.self.inside.map c.args.lo c.args.hi c.self.invariant in
    IfOk-weaker c.keys.result _ _ (λ keys same. same ∙ ap keys_of hit ∙ known ∙ ap (λ is. overlap is c.args.lo c.args.hi) c.self.view_is) c.keys.ensures
