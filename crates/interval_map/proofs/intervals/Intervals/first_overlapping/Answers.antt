use Rattle.std.proofs.Common.{◌≡◌, Some, sym, ap, ◌∙◌}
use Rattle.std.specs.List.{slice_get}
use Rattle.std.specs.Map.{keys_of}
use Rattle.std.specs.Option.{option_map}
use Rattle.aug_monoid.specs.declared.pair64.Pair64.{Pair64}
use Rattle.map_model.specs.Fold.{aug_filter}
use Rattle.interval_map.specs.Ends.{reaches}
use Rattle.interval_map.specs.Intervals.{overlap}
use Rattle.interval_map.proofs.Hits.{first_key, keys-overlap}
use Rattle.interval_map.proofs.intervals.Intervals.first_overlapping.Goals as goal

pub returns-in-Some : goal.returns-in-Some
returns-in-Some c =
    let hits = aug_filter (λ (key : Pair64) _. Some key.second) (reaches c.args.lo) c.in_ok-begun.begun in
    let known = ap keys_of (ap (aug_filter (λ (key : Pair64) _. Some key.second) (reaches c.args.lo)) c.in_ok-begun.ensures) ∙ keys-overlap c.self.inside.map c.args.lo c.args.hi c.self.invariant ∙ ap (λ is. overlap is c.args.lo c.args.hi) c.self.view_is in
    ap (option_map (λ e. e.0)) (sym c.in-Some.is ∙ c.in_ok-first.ensures.value) ∙ first_key hits ∙ ap (λ is. slice_get is 0) known

pub returns : goal.returns
returns c =
    let hits = aug_filter (λ (key : Pair64) _. Some key.second) (reaches c.args.lo) c.in_ok-begun.begun in
    let known = ap keys_of (ap (aug_filter (λ (key : Pair64) _. Some key.second) (reaches c.args.lo)) c.in_ok-begun.ensures) ∙ keys-overlap c.self.inside.map c.args.lo c.args.hi c.self.invariant ∙ ap (λ is. overlap is c.args.lo c.args.hi) c.self.view_is in
    ap (option_map (λ e. e.0)) (sym c.in-None.is ∙ c.in_ok-first.ensures.value) ∙ first_key hits ∙ ap (λ is. slice_get is 0) known
