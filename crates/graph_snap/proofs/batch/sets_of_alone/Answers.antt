use Rattle.std.proofs.Common.{◌∙◌, [], subst, sym}
use Rattle.graph_snap.specs.Edges.{IsGraph, pairs_of}
use Rattle.graph_snap.proofs.Sets.{graph-with_edges}
use Rattle.graph_snap.proofs.batch.sets_of_alone.Goals as goal

pub grouped-requires : goal.grouped-requires
grouped-requires c = subst IsGraph (sym (c.deref.ensures.value ∙ c.in_ok-edges.ensures)) (graph-with_edges [] (pairs_of c.args.list.now) tt)
