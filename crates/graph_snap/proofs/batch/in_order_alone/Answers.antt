use Rattle.std.proofs.lemmas.Result.{IfOk-weaker}
use Rattle.graph_snap.proofs.Runs.{in_order_is}
use Rattle.graph_snap.proofs.batch.in_order_alone.Goals as goal

pub returns : goal.returns
returns c = IfOk-weaker c.as_pairs.result _ _ (λ pairs h. in_order_is c.args.list.now c.in_ok-keys.keys.items c.deref.result.now pairs.items c.in_ok-keys.ensures c.deref.ensures.value h) c.as_pairs.ensures
