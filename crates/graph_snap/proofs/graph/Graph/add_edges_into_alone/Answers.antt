use Rattle.std.proofs.Common.{◌∙◌, [], subst, sym}
use Rattle.graph_snap.specs.Edges.{IsGraph, edges_of, pairs_of}
use Rattle.graph_snap.proofs.Batched.{added_in_order}
use Rattle.graph_snap.proofs.Sets.{graph-with_edges}
use Rattle.graph_snap.proofs.graph.Graph.add_edges_into_alone.Goals as goal

pub with_edges_into_alone-requires-clause-edges : goal.with_edges_into_alone-requires-clause-edges
with_edges_into_alone-requires-clause-edges c = subst IsGraph (sym (c.deref.ensures.value ∙ c.in_ok-edges.ensures)) (graph-with_edges [] (pairs_of c.args.list.now) tt)

pub returns : goal.returns
returns c = added_in_order c.into_vertices.result.entries c.deref.result.now c.args.self (pairs_of c.args.list.now) (edges_of c.in_ok-vertices.vertices.entries) c.into_vertices.ensures.edges c.into_vertices.ensures.sets (c.deref.ensures.value ∙ c.in_ok-edges.ensures) c.in_ok-vertices.ensures.edges
