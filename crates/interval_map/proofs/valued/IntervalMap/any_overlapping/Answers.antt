use Rattle.std.proofs.Common.{◌≡◌, ◌↔◌, IsTrue, [], ap, subst, ◌∙◌}
use Rattle.interval_map.specs.IntervalMaps.{overlapping}
use Rattle.interval_map.specs.RightEnds.{end_reaches}
use Rattle.interval_map.proofs.Reached.{covers_hits}
use Rattle.interval_map.proofs.valued.IntervalMap.any_overlapping.Goals as goal

pub returns-clause-value : goal.returns-clause-value
returns-clause-value g c =
    let order = g.E.Ord.cmp in
    let lo = c.args.lo.now in
    let part = rw c.in-Some.is at c.in_ok-last.ensures.last in
    subst (λ m. IsTrue c.reaches.result ↔ ¬ (overlapping order m lo c.args.hi.now ≡ [])) c.self.view_is
    (covers_hits g.met.E.Ord.total c.self.inside.map _ lo c.args.hi.now c.reaches.result part (c.reaches.ensures ∙ ap (end_reaches order lo) c.in_ok-right.ensures.value))
