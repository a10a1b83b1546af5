use Rattle.std.proofs.lemmas.Result.{IfOk-weaker}
use Rattle.graph_snap.proofs.Ordered.{lent_rises, next_is}
use Rattle.graph_snap.proofs.search.next_front.Goals as goal

pub not_found-requires-clause-increasing : goal.not_found-requires-clause-increasing
not_found-requires-clause-increasing g c κs within = lent_rises c.args.vertices.now.entries c.args.front.now c.args.distance c.in_ok-near.near.items c.deref.result.now c.in_ok-near.ensures c.deref.ensures.value

pub returns : goal.returns
returns g c = IfOk-weaker c.not_found.result _ _ (λ next h. next_is c.args.vertices.now.entries c.args.front.now c.args.found.now.entries c.args.distance c.in_ok-near.near.items c.deref.result.now next.items c.in_ok-near.ensures c.deref.ensures.value h) c.not_found.ensures
