use Rattle.std.proofs.lemmas.Result.{IfOk-weaker}
use Rattle.graph_snap.proofs.Ordered.{taken_is}
use Rattle.graph_snap.proofs.search_alone.not_in_map_alone.Goals as goal

pub returns : goal.returns
returns c = IfOk-weaker c.to_vec.result _ _ (λ list h. taken_is c.args.near.now c.args.found.now.entries c.in_ok-listed.listed.entries c.in_ok-left.left.entries list.items c.requires c.in_ok-listed.ensures c.in_ok-left.ensures h) c.to_vec.ensures
