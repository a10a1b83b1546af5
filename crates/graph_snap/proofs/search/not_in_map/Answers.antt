use Rattle.std.proofs.lemmas.Result.{IfOk-weaker}
use Rattle.graph_snap.proofs.Ordered.{taken_is}
use Rattle.graph_snap.proofs.search.not_in_map.Goals as goal

pub returns : goal.returns
returns g c = IfOk-weaker c.to_vec.result _ _ (λ list h. taken_is c.args.near.now c.args.found.now.entries c.in_ok-listed.listed.entries c.in_ok-left.left.entries list.items c.requires c.in_ok-listed.ensures c.in_ok-left.ensures h) c.to_vec.ensures
