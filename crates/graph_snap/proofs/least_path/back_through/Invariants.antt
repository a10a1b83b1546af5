use Rattle.std.proofs.Common.{map, vec_len}
use Rattle.graph_snap.specs.Edges.{edges_of}
use Rattle.graph_snap.proofs.Paths.{IsBack}
use Rattle.graph_snap.proofs.least_path.back_through.Given as goal

abbrev pub invariant-back : goal.invariant-back
invariant-back l = IsBack (edges_of l.vertices.entries) l.from l.to l.present (map (λ f. f.items) l.fronts.items) l.path.items

abbrev pub decreases-back : goal.decreases-back
decreases-back l = vec_len l.fronts
