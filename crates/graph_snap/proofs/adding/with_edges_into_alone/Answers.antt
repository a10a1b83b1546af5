use Rattle.std.proofs.Common.{◌∙◌, ap, subst, sym}
use Rattle.std.proofs.lemmas.Result.{IfOk-weaker}
use Rattle.graph_snap.specs.Edges.{AreSets, edges_of}
use Rattle.graph_snap.proofs.Renewals.{edges-renewed, renewed_rise, sets-renewed}
use Rattle.graph_snap.proofs.adding.with_edges_into_alone.Goals as goal

pub union_into_alone-requires : goal.union_into_alone-requires
union_into_alone-requires c = record { increasing = renewed_rise c.args.vertices.entries c.args.edges.now c.in_ok-sets.sets.items c.deref.result.now c.requires.vertices c.in_ok-sets.ensures c.deref.ensures.value }

pub returns-clause-sets : goal.returns-clause-sets
returns-clause-sets c = IfOk-weaker c.union_into_alone.result _ _ (λ map h. subst AreSets (sym h) (sets-renewed c.args.vertices.entries c.args.edges.now c.in_ok-sets.sets.items c.deref.result.now c.requires.vertices c.in_ok-sets.ensures c.deref.ensures.value)) c.union_into_alone.ensures

pub returns-clause-edges : goal.returns-clause-edges
returns-clause-edges c = IfOk-weaker c.union_into_alone.result _ _ (λ map h. ap edges_of h ∙ edges-renewed c.args.vertices.entries c.args.edges.now c.in_ok-sets.sets.items c.deref.result.now c.requires.vertices c.in_ok-sets.ensures c.deref.ensures.value) c.union_into_alone.ensures
