use Rattle.std.proofs.Common.{◌∙◌, ℕ, List, reverse, sym, ap, subst, arith}
use Rattle.graph_snap.specs.Edges.{pairs_of}
use Rattle.graph_snap.specs.declared.edge.Edge.{Edge}
use Rattle.graph_order.specs.Orders.{IsTopologicalOrder}
use Rattle.graph_order.proofs.Going.{none_begun}
use Rattle.graph_order.proofs.Sources.{all_ordered, begins, none_seen, seen_more}
use Rattle.graph_order.proofs.order.topological_order.Goals as goal

pub loop-edge-init : goal.loop-edge-init
loop-edge-init c = record {
  search = none_begun c.args.graph.now c.new.result c.new-3.result.items c.new-2.result.items c.new.ensures c.new-3.ensures.items c.new-2.ensures.items;
  none = c.new-2.ensures.items;
  seen = none_seen c.new.result;
}

pub go_from-requires-clause-end : goal.go_from-requires-clause-end
go_from-requires-clause-end c =
    let d : Edge = record { from = 0; to = 0 } in
    begins c.args.graph.now c.deref-edge-items.result.now (ap pairs_of c.deref-edge-items.ensures.value ∙ c.in_ok-edges.ensures) c.loop-edge.edge-index d (omega arith)

pub returns-in-Some : goal.returns-in-Some
returns-in-Some c = c.in_ok-cycle.ensures c.args.graph.now (reverse c.go_from.new.search.done.items) (rw c.in-Some.is at c.in_ok-end.ensures)

pub loop-edge-preserved : goal.loop-edge-preserved
loop-edge-preserved c =
    let d : Edge = record { from = 0; to = 0 } in
    let ended = rw c.in_default.is at c.in_ok-end.ensures in
    record {
      search = ended.0.0;
      none = ended.0.1;
      seen = seen_more c.loop-edge.search.marks c.go_from.new.search.marks c.deref-edge-items.result.now c.loop-edge.edge-index d (omega arith) ended.0.2 c.loop-edge.invariant.seen ended.1;
    }

pub returns : goal.returns
returns c =
    let search = c.loop-edge.search in
    let listed = ap pairs_of c.deref-edge-items.ensures.value ∙ c.in_ok-edges.ensures in
    let ordered = all_ordered c.args.graph.now c.deref-edge-items.result.now listed search.marks (reverse search.done.items) search.walk.items c.loop-edge.edge-index c.loop-edge.invariant.none (omega arith) c.loop-edge.invariant.seen c.loop-edge.invariant.search in
    subst (λ (order : List ℕ). IsTopologicalOrder c.args.graph.now order) (sym c.reverse.ensures.items) ordered
