use Rattle.std.proofs.Common.{subst, sym}
use Rattle.graph_snap.specs.Edges.{AreSets, edges_of, pairs_of}
use Rattle.graph_snap.proofs.Batched.{removed}
use Rattle.graph_snap.proofs.graph.Graph.cut_edges_alone.Goals as goal

pub of_vec-requires : goal.of_vec-requires
of_vec-requires c = c.in_ok-changed.ensures.sets.increasing

pub without_sets_alone-requires-clause-batch : goal.without_sets_alone-requires-clause-batch
without_sets_alone-requires-clause-batch c = subst AreSets (sym c.in_ok-batch.ensures) c.in_ok-changed.ensures.sets

pub returns : goal.returns
returns c = removed c.self.inside.vertices.entries c.in_ok-changed.changed.items c.in_ok-batch.batch.entries c.args.self.now (pairs_of c.args.list.now) (edges_of c.in_ok-vertices.vertices.entries) c.self.view_is c.self.invariant.0 c.in_ok-batch.ensures c.in_ok-changed.ensures.edges c.in_ok-vertices.ensures.edges
