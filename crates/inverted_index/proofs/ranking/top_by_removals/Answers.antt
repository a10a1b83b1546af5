use Rattle.std.proofs.Common.{◌+◌, length, take, arith}
use Rattle.inverted_index.specs.Queries.{hits_of, ranked}
use Rattle.inverted_index.proofs.Ranks.{leads_none, leads_some, low_dropped, top_done, top_end, top_more}
use Rattle.inverted_index.proofs.TopCosts.{a_search, all_hits, fewer, one_hit}
use Rattle.inverted_index.proofs.ranking.top_by_removals.Goals as goal

pub loop-place-preserved : goal.loop-place-preserved
loop-place-preserved g c =
    let before = c.loop-place.rest.entries in
    let after = c.del_mut.new.self.entries in
    let hit = c.in-Some.hit in
    record {
      same = top_more (hits_of (take c.args.k (ranked c.args.weights.now.entries))) c.loop-place.hits.items c.push.new.self.items c.args.k c.loop-place._place before after hit (omega arith) c.loop-place.invariant.same (leads_some before c.in_ok-hit.field-0 hit c.in_ok-hit.ensures.leads c.in-Some.is) c.in_ok-del_mut.ensures.entries c.in_ok-push.ensures.items;
      low = low_dropped after before hit.doc c.in_ok-del_mut.ensures.entries c.loop-place.invariant.low;
      few = fewer before after c.args.weights.now.entries hit.doc c.in_ok-del_mut.ensures.entries c.loop-place.invariant.few;
      cost = λ height levels. one_hit c.loop-place._place c.loop-place.rest.height height (length before) (length c.args.weights.now.entries) _ _ _ _ c.height-height.ensures.law c.loop-place.invariant.few levels (c.loop-place.invariant.cost height levels) c.in_ok-hit.ensures.cost c.in_ok-del_mut.ensures.cost;
    }

pub returns-in_err-hit-clause-cost : goal.returns-in_err-hit-clause-cost
returns-in_err-hit-clause-cost g c height levels = a_search c.args.k c.loop-place._place c.loop-place.rest.height height (length c.loop-place.rest.entries) (length c.args.weights.now.entries) _ _ _ (omega arith) c.height-height.ensures.law c.loop-place.invariant.few levels (c.loop-place.invariant.cost height levels) c.heaviest.ensures.cost

pub returns-in_err-del_mut-clause-cost : goal.returns-in_err-del_mut-clause-cost
returns-in_err-del_mut-clause-cost g c height levels =
    all_hits c.args.k (c.loop-place._place + 1) height _ _ (omega arith)
    (one_hit c.loop-place._place c.loop-place.rest.height height (length c.loop-place.rest.entries) (length c.args.weights.now.entries) _ _ _ _ c.height-height.ensures.law c.loop-place.invariant.few levels (c.loop-place.invariant.cost height levels) c.in_ok-hit.ensures.cost c.del_mut.ensures.cost)

pub returns-in_err-push-clause-cost : goal.returns-in_err-push-clause-cost
returns-in_err-push-clause-cost g c height levels =
    all_hits c.args.k (c.loop-place._place + 1) height _ _ (omega arith)
    (one_hit c.loop-place._place c.loop-place.rest.height height (length c.loop-place.rest.entries) (length c.args.weights.now.entries) _ _ _ _ c.height-height.ensures.law c.loop-place.invariant.few levels (c.loop-place.invariant.cost height levels) c.in_ok-hit.ensures.cost c.in_ok-del_mut.ensures.cost)

pub returns-in_default-clause-hits : goal.returns-in_default-clause-hits
returns-in_default-clause-hits g c = top_done (hits_of (take c.args.k (ranked c.args.weights.now.entries))) c.loop-place.hits.items c.args.k c.loop-place._place c.loop-place.rest.entries c.loop-place.invariant.same (leads_none c.loop-place.rest.entries c.in_ok-hit.field-0 c.in_ok-hit.ensures.leads c.in_default.not-Some)

pub returns-in_default-clause-cost : goal.returns-in_default-clause-cost
returns-in_default-clause-cost g c height levels = a_search c.args.k c.loop-place._place c.loop-place.rest.height height (length c.loop-place.rest.entries) (length c.args.weights.now.entries) _ _ _ (omega arith) c.height-height.ensures.law c.loop-place.invariant.few levels (c.loop-place.invariant.cost height levels) c.in_ok-hit.ensures.cost

pub returns-clause-hits : goal.returns-clause-hits
returns-clause-hits g c = top_end (hits_of (take c.args.k (ranked c.args.weights.now.entries))) c.loop-place.hits.items c.args.k c.loop-place._place c.loop-place.rest.entries c.loop-place.invariant.same (omega arith)

pub returns-clause-cost : goal.returns-clause-cost
returns-clause-cost g c height levels = all_hits c.args.k c.loop-place._place height _ _ (omega arith) (c.loop-place.invariant.cost height levels)
