use Rattle.std.proofs.Common.{◌∙◌, ap, subst, sym}
use Rattle.std.proofs.lemmas.Result.{IfOk-weaker}
use Rattle.graph_snap.specs.Edges.{AreSets, edges_of}
use Rattle.graph_snap.proofs.Batched.{edges-left, left_is, sets-left}
use Rattle.graph_snap.proofs.Crosses.{block_sent, block_sync, set_sent, set_sync}
use Rattle.graph_snap.proofs.vertices.without_sets.Goals as goal

pub returns-clause-sets : goal.returns-clause-sets
returns-clause-sets g c =
    let sets = c.args.vertices.now.entries in
    let batch = c.args.batch.now.entries in
    IfOk-weaker c.union.result _ _ (λ map h. subst AreSets (sym (left_is sets batch c.requires.vertices c.requires.batch c.in_ok-changed.changed.entries c.in_ok-left.left.entries c.in_ok-others.others.entries map.entries c.in_ok-changed.ensures c.in_ok-left.ensures c.in_ok-others.ensures h)) (sets-left sets batch c.requires.vertices c.requires.batch)) c.union.ensures

pub returns-clause-edges : goal.returns-clause-edges
returns-clause-edges g c =
    let sets = c.args.vertices.now.entries in
    let batch = c.args.batch.now.entries in
    IfOk-weaker c.union.result _ _ (λ map h. ap edges_of (left_is sets batch c.requires.vertices c.requires.batch c.in_ok-changed.changed.entries c.in_ok-left.left.entries c.in_ok-others.others.entries map.entries c.in_ok-changed.ensures c.in_ok-left.ensures c.in_ok-others.ensures h) ∙ edges-left sets batch c.requires.vertices c.requires.batch) c.union.ensures

pub difference-requires-send-M-Leaf : goal.difference-requires-send-M-Leaf
difference-requires-send-M-Leaf g c κs within = record { owned = block_sent.owned; leaving = block_sent.leaving }

pub difference-requires-sync-M-Leaf : goal.difference-requires-sync-M-Leaf
difference-requires-sync-M-Leaf g c κs within = record { shared = block_sync.shared }

pub difference-requires-send-M-Val : goal.difference-requires-send-M-Val
difference-requires-send-M-Val g c κs within = record { owned = set_sent.owned; leaving = set_sent.leaving }

pub difference-requires-sync-M-Val : goal.difference-requires-sync-M-Val
difference-requires-sync-M-Val g c κs within = record { shared = set_sync.shared }

pub filter-requires-send-M-Leaf : goal.filter-requires-send-M-Leaf
filter-requires-send-M-Leaf g c κs within = record { owned = block_sent.owned; leaving = block_sent.leaving }

pub filter-requires-sync-M-Leaf : goal.filter-requires-sync-M-Leaf
filter-requires-sync-M-Leaf g c κs within = record { shared = block_sync.shared }

pub filter-requires-send-M-Val : goal.filter-requires-send-M-Val
filter-requires-send-M-Val g c κs within = record { owned = set_sent.owned; leaving = set_sent.leaving }

pub filter-requires-sync-M-Val : goal.filter-requires-sync-M-Val
filter-requires-sync-M-Val g c κs within = record { shared = set_sync.shared }

pub intersect-requires-send-M-Leaf : goal.intersect-requires-send-M-Leaf
intersect-requires-send-M-Leaf g c κs within = record { owned = block_sent.owned; leaving = block_sent.leaving }

pub intersect-requires-sync-M-Leaf : goal.intersect-requires-sync-M-Leaf
intersect-requires-sync-M-Leaf g c κs within = record { shared = block_sync.shared }

pub intersect-requires-send-M-Val : goal.intersect-requires-send-M-Val
intersect-requires-send-M-Val g c κs within = record { owned = set_sent.owned; leaving = set_sent.leaving }

pub intersect-requires-sync-M-Val : goal.intersect-requires-sync-M-Val
intersect-requires-sync-M-Val g c κs within = record { shared = set_sync.shared }

pub union-requires-send-M-Leaf : goal.union-requires-send-M-Leaf
union-requires-send-M-Leaf g c κs within = record { owned = block_sent.owned; leaving = block_sent.leaving }

pub union-requires-sync-M-Leaf : goal.union-requires-sync-M-Leaf
union-requires-sync-M-Leaf g c κs within = record { shared = block_sync.shared }

pub union-requires-send-M-Val : goal.union-requires-send-M-Val
union-requires-send-M-Val g c κs within = record { owned = set_sent.owned; leaving = set_sent.leaving }

pub union-requires-sync-M-Val : goal.union-requires-sync-M-Val
union-requires-sync-M-Val g c κs within = record { shared = set_sync.shared }
