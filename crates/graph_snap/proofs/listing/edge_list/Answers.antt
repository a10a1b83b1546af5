use Rattle.std.proofs.Common.{◌++◌, ◌∙◌, ap, arith}
use Rattle.graph_snap.specs.Listing.{edges_from}
use Rattle.graph_snap.proofs.Listed.{flat_end, flat_more}
use Rattle.graph_snap.proofs.listing.edge_list.Goals as goal

pub loop-entry-preserved : goal.loop-entry-preserved
loop-entry-preserved c = flat_more (λ s. edges_from s.0 s.1) c.deref-entry-items.result.now c.loop-entry.entry-index c.entry-item.result c.push_edges.new.list.items c.loop-entry.list.items (omega arith) c.loop-entry.invariant (c.in_ok-push_edges.ensures ∙ ap (λ s. c.loop-entry.list.items ++ edges_from s.0 s.1) c.entry-item.is)

pub returns : goal.returns
returns c = flat_end (λ s. edges_from s.0 s.1) c.deref-entry-items.result.now c.args.vertices.now.entries c.loop-entry.entry-index c.loop-entry.list.items (omega arith) c.loop-entry.invariant (c.deref-entry-items.ensures.value ∙ c.in_ok-sets.ensures)
