use Rattle.std.proofs.Common.{arith}
use Rattle.graph_snap.specs.declared.edge.Edge.{Edge}
use Rattle.graph_comp.proofs.Spans.{spans_all, spans_next}
use Rattle.graph_comp.proofs.spanning.unite_ends.Goals as goal

pub loop-edge-init : goal.loop-edge-init
loop-edge-init c = c.requires.none

pub loop-edge-preserved : goal.loop-edge-preserved
loop-edge-preserved c =
    let d : Edge = record { from = 0; to = 0 } in
    spans_next c.args.vertices.now c.args.edges.now c.loop-edge.edge-index d c.loop-edge.parents c.unite.new.parents c.place_of-from.result c.place_of-to.result (omega arith) c.loop-edge.invariant
    c.unite.ensures.forest c.unite.ensures.len c.place_of-from.ensures.at c.place_of-to.ensures.at c.unite.ensures.united

pub returns : goal.returns
returns c = spans_all c.args.vertices.now c.args.edges.now c.loop-edge.edge-index c.loop-edge.parents (omega arith) c.loop-edge.invariant

pub place_of-from-requires-clause-found : goal.place_of-from-requires-clause-found
place_of-from-requires-clause-found c =
    let d : Edge = record { from = 0; to = 0 } in
    (c.requires.ends.ends c.loop-edge.edge-index d (omega arith)).0

pub place_of-to-requires-clause-found : goal.place_of-to-requires-clause-found
place_of-to-requires-clause-found c =
    let d : Edge = record { from = 0; to = 0 } in
    (c.requires.ends.ends c.loop-edge.edge-index d (omega arith)).1
