use Rattle.std.proofs.Common.{subst, sym}
use Rattle.graph_snap.specs.Edges.{AreSets, edges_of, pairs_of}
use Rattle.graph_snap.proofs.Batched.{added}
use Rattle.graph_snap.proofs.graph.Graph.add_edges.Goals as goal

pub of_vec-requires : goal.of_vec-requires
of_vec-requires g c = c.in_ok-changed.ensures.sets.increasing

pub with_sets-requires-clause-batch : goal.with_sets-requires-clause-batch
with_sets-requires-clause-batch g c κs within = subst AreSets (sym c.in_ok-batch.ensures) c.in_ok-changed.ensures.sets

pub returns : goal.returns
returns g c = added c.self.inside.vertices.entries c.in_ok-changed.changed.items c.in_ok-batch.batch.entries c.args.self.now (pairs_of c.args.list.now) (edges_of c.in_ok-vertices.vertices.entries) c.self.view_is c.self.invariant.0 c.in_ok-batch.ensures c.in_ok-changed.ensures.edges c.in_ok-vertices.ensures.edges
