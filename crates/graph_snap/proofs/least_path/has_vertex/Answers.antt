use Rattle.std.proofs.Common.{◌∙◌, is_some, ap, sym, arith}
use Rattle.graph_snap.proofs.Paths.{lookup_goes_on, not_in, vertex_at}
use Rattle.graph_snap.proofs.least_path.has_vertex.Goals as goal

pub loop-entry-preserved : goal.loop-entry-preserved
loop-entry-preserved c = sym (ap is_some (lookup_goes_on c.args.front.now c.loop-entry.entry-index c.args.vertex (0, 0) (omega arith) c.if-entry-vertex.false)) ∙ c.loop-entry.invariant

pub returns-then-entry-vertex : goal.returns-then-entry-vertex
returns-then-entry-vertex c = sym (vertex_at c.args.front.now c.loop-entry.entry-index c.args.vertex (0, 0) (omega arith) c.if-entry-vertex.true)

pub returns : goal.returns
returns c = not_in c.args.front.now c.loop-entry.entry-index c.args.vertex (omega arith) c.loop-entry.invariant
