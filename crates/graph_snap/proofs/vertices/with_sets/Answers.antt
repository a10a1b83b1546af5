use Rattle.std.proofs.Common.{subst, sym, ◌∙◌, ap}
use Rattle.std.proofs.lemmas.Result.{IfOk-weaker}
use Rattle.graph_snap.specs.Edges.{AreSets, edges_of}
use Rattle.graph_snap.proofs.Batched.{edges-both, sets-both}
use Rattle.graph_snap.proofs.Crosses.{block_sent, block_sync, set_sent, set_sync}
use Rattle.graph_snap.proofs.vertices.with_sets.Goals as goal

pub returns-clause-sets : goal.returns-clause-sets
returns-clause-sets g c = IfOk-weaker c.union.result _ _ (λ map h. subst AreSets (sym h) (sets-both c.args.vertices.now.entries c.args.batch.now.entries c.requires.vertices c.requires.batch)) c.union.ensures

pub returns-clause-edges : goal.returns-clause-edges
returns-clause-edges g c = IfOk-weaker c.union.result _ _ (λ map h. ap edges_of h ∙ edges-both c.args.vertices.now.entries c.args.batch.now.entries c.requires.vertices c.requires.batch) c.union.ensures

pub union-requires-send-M-Leaf : goal.union-requires-send-M-Leaf
union-requires-send-M-Leaf g c κs within = record { owned = block_sent.owned; leaving = block_sent.leaving }

pub union-requires-sync-M-Leaf : goal.union-requires-sync-M-Leaf
union-requires-sync-M-Leaf g c κs within = record { shared = block_sync.shared }

pub union-requires-send-M-Val : goal.union-requires-send-M-Val
union-requires-send-M-Val g c κs within = record { owned = set_sent.owned; leaving = set_sent.leaving }

pub union-requires-sync-M-Val : goal.union-requires-sync-M-Val
union-requires-sync-M-Val g c κs within = record { shared = set_sync.shared }
