use Rattle.std.proofs.Common.{◌∙◌, ap, subst, sym}
use Rattle.std.proofs.lemmas.Result.{IfOk-weaker}
use Rattle.graph_snap.specs.Edges.{AreSets, edges_of}
use Rattle.graph_snap.proofs.Batched.{edges-left, left_is, sets-left}
use Rattle.graph_snap.proofs.vertices.without_sets_alone.Goals as goal

pub returns-clause-sets : goal.returns-clause-sets
returns-clause-sets c =
    let sets = c.args.vertices.now.entries in
    let batch = c.args.batch.now.entries in
    IfOk-weaker c.union_alone.result _ _ (λ map h. subst AreSets (sym (left_is sets batch c.requires.vertices c.requires.batch c.in_ok-changed.changed.entries c.in_ok-left.left.entries c.in_ok-others.others.entries map.entries c.in_ok-changed.ensures c.in_ok-left.ensures c.in_ok-others.ensures h)) (sets-left sets batch c.requires.vertices c.requires.batch)) c.union_alone.ensures

pub returns-clause-edges : goal.returns-clause-edges
returns-clause-edges c =
    let sets = c.args.vertices.now.entries in
    let batch = c.args.batch.now.entries in
    IfOk-weaker c.union_alone.result _ _ (λ map h. ap edges_of (left_is sets batch c.requires.vertices c.requires.batch c.in_ok-changed.changed.entries c.in_ok-left.left.entries c.in_ok-others.others.entries map.entries c.in_ok-changed.ensures c.in_ok-left.ensures c.in_ok-others.ensures h) ∙ edges-left sets batch c.requires.vertices c.requires.batch) c.union_alone.ensures
