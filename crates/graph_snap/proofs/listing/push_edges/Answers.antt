use Rattle.std.proofs.Common.{◌∙◌, arith}
use Rattle.graph_snap.proofs.Listed.{edges_end, edges_more}
use Rattle.graph_snap.proofs.listing.push_edges.Goals as goal

pub loop-end-preserved : goal.loop-end-preserved
loop-end-preserved c = edges_more c.args.list.now.items c.args.from c.deref-end-items.result.now c.loop-end.end-index (0, tt) c.push.new.self.items c.loop-end.list.items (omega arith) c.loop-end.invariant c.in_ok-push.ensures.items

pub returns : goal.returns
returns c = edges_end c.args.list.now.items c.args.from c.deref-end-items.result.now c.args.set.now c.loop-end.end-index c.loop-end.list.items (omega arith) c.loop-end.invariant (c.deref-end-items.ensures.value ∙ c.in_ok-ends.ensures ∙ c.map.ensures)
