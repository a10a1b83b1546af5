use Rattle.std.proofs.Common.{subst, sym}
use Rattle.graph_snap.specs.Edges.{AreSets, edges_of}
use Rattle.graph_snap.proofs.Turned.{is_reverse, reversed_is}
use Rattle.graph_snap.proofs.graph.Graph.reversed.Goals as goal

pub of_vec-requires : goal.of_vec-requires
of_vec-requires c = c.in_ok-sets.ensures.sets.increasing

pub invariant_of-result : goal.invariant_of-result
invariant_of-result c = (subst AreSets (sym c.in_ok-vertices.ensures) c.in_ok-sets.ensures.sets, c.in_ok-edges.ensures)

pub returns-clause-value : goal.returns-clause-value
returns-clause-value c = reversed_is c.in_ok-sets.sets.items c.in_ok-vertices.vertices.entries c.args.self.now c.in_ok-list.list.items c.deref.result.now c.in_ok-list.ensures c.deref.ensures.value c.in_ok-sets.ensures.edges c.in_ok-vertices.ensures

pub returns-clause-turned : goal.returns-clause-turned
returns-clause-turned c = is_reverse c.args.self.now (edges_of c.in_ok-vertices.vertices.entries) (reversed_is c.in_ok-sets.sets.items c.in_ok-vertices.vertices.entries c.args.self.now c.in_ok-list.list.items c.deref.result.now c.in_ok-list.ensures c.deref.ensures.value c.in_ok-sets.ensures.edges c.in_ok-vertices.ensures)
