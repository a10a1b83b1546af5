use Rattle.graph_snap.proofs.Packed.{packed_more}
use Rattle.graph_snap.proofs.packing.packed.Goals as goal

pub loop-edge-preserved : goal.loop-edge-preserved
loop-edge-preserved c = packed_more c.args.list.now c.loop-edge.edge-index _ c.loop-edge.keys.items c.push.new.self.items c.in_ok-push.ensures.items c.loop-edge-test.true c.if-edge-ge-SMALL-2.false c.loop-edge.invariant
