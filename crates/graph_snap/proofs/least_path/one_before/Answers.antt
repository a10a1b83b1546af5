use Rattle.std.proofs.Common.{◌∙◌, ℕ, get_or, refl, sym, arith}
use Rattle.graph_snap.specs.Merging.{leads}
use Rattle.graph_snap.proofs.Paths.{any_goes_on, any_left, vertex_at}
use Rattle.graph_snap.proofs.least_path.one_before.Goals as goal

pub loop-entry-preserved : goal.loop-entry-preserved
loop-entry-preserved c = any_goes_on (λ (e : ℕ × ℕ). leads c.args.vertices.now.entries e.0 c.args.to) c.args.front.now c.loop-entry.entry-index (0, 0) (omega arith) (sym c.has_edge.ensures ∙ c.if-has_edge.false) c.loop-entry.invariant

pub unreachable-requires : goal.unreachable-requires
unreachable-requires c = any_left (λ (e : ℕ × ℕ). leads c.args.vertices.now.entries e.0 c.args.to) c.args.front.now c.loop-entry.entry-index (omega arith) c.loop-entry.invariant

pub returns-then-has_edge-clause-there : goal.returns-then-has_edge-clause-there
returns-then-has_edge-clause-there c = vertex_at c.args.front.now c.loop-entry.entry-index (get_or c.args.front.now c.loop-entry.entry-index (0, 0)).0 (0, 0) (omega arith) refl

pub returns-then-has_edge-clause-edge : goal.returns-then-has_edge-clause-edge
returns-then-has_edge-clause-edge c = sym c.has_edge.ensures ∙ c.if-has_edge.true
