use Rattle.std.proofs.Common.{◌≡◌, drop, is_some}
use Rattle.std.specs.Ordering.{nat_cmp}
use Rattle.map_model.specs.Entries.{lookup}
use Rattle.graph_snap.proofs.least_path.has_vertex.Given as goal

abbrev pub invariant-loop-entry : goal.invariant-loop-entry
invariant-loop-entry l = is_some (lookup nat_cmp (drop l.entry-index l.front) l.vertex) ≡ is_some (lookup nat_cmp l.front l.vertex)
