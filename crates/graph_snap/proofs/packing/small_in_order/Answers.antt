use Rattle.std.proofs.Common.{◌≡◌}
use Rattle.std.proofs.lemmas.Option.{MatchOption-at_some}
use Rattle.graph_snap.specs.Batches.{unpacked}
use Rattle.graph_snap.specs.Edges.{pairs_of}
use Rattle.graph_snap.proofs.Packed.{small_order_is}
use Rattle.graph_snap.proofs.packing.small_in_order.Goals as goal

pub returns : goal.returns
returns c =
    let keys : unpacked c.in-Some.keys.items ≡ pairs_of c.args.list.now = MatchOption-at_some _ (λ k. unpacked k.items ≡ pairs_of c.args.list.now) c.in-Some.keys c.in-Some.is c.in_ok-keys.ensures in
    small_order_is c.args.list.now c.in-Some.keys.items c.put_in_order.new.keys.items c.deref.result.now c.in_ok-edges.edges.items keys c.put_in_order.ensures c.deref.ensures.value c.in_ok-edges.ensures
