use Rattle.std.proofs.Common.{◌∙◌, ap}
use Rattle.std.proofs.lemmas.Result.{IfOk-weaker}
use Rattle.graph_snap.specs.Edges.{edges_of}
use Rattle.graph_snap.specs.Walks.{as_reached}
use Rattle.graph_snap.proofs.Fronts.{ends_at, front_rises, goes_on, less_to_go, starts_at}
use Rattle.graph_snap.proofs.search.search.Goals as goal

pub levels-init : goal.levels-init
levels-init g c = starts_at (edges_of c.args.vertices.now.entries) c.args.from c.in_ok-front.front.items c.in_ok-found.found.entries c.in_ok-front.ensures c.in_ok-found.ensures

pub union_into-requires-clause-increasing : goal.union_into-requires-clause-increasing
union_into-requires-clause-increasing g c κs within = front_rises c.args.vertices.now.entries c.deref.result.now c.levels.found.entries c.in_ok-front-2.front.items c.deref-in-levels.result.now c.in_ok-distance.distance c.in_ok-front-2.ensures c.deref-in-levels.ensures.value

pub levels-preserved : goal.levels-preserved
levels-preserved g c = goes_on c.args.vertices.now.entries c.requires.increasing c.args.from c.levels.distance c.in_ok-distance.distance c.levels.front.items c.deref.result.now c.levels.found.entries c.in_ok-front-2.front.items c.deref-in-levels.result.now c.in_ok-found-2.found.entries c.levels.invariant c.in_ok-distance.ensures c.deref.ensures.value c.in_ok-front-2.ensures c.deref-in-levels.ensures.value c.in_ok-found-2.ensures

pub levels-smaller : goal.levels-smaller
levels-smaller g c = less_to_go (edges_of c.args.vertices.now.entries) c.args.from c.levels.distance c.in_ok-distance.distance c.len.result c.levels.front.items c.levels.found.entries c.levels.invariant c.in_ok-distance.ensures (c.len.ensures ∙ c.levels.front.ok.0) c.levels-test.true

pub returns : goal.returns
returns g c = IfOk-weaker c.listed.result _ _ (λ list h. h ∙ ap as_reached (ends_at (edges_of c.args.vertices.now.entries) c.args.from c.levels.distance c.len.result c.levels.front.items c.levels.found.entries c.levels.invariant (c.len.ensures ∙ c.levels.front.ok.0) c.levels-test.false)) c.listed.ensures
