use Rattle.std.proofs.Common.{◌≡◌, drop, true}
use Rattle.std.specs.List.{list_any}
use Rattle.graph_snap.specs.Merging.{leads}
use Rattle.graph_snap.proofs.least_path.one_before.Given as goal

abbrev pub invariant-loop-entry : goal.invariant-loop-entry
invariant-loop-entry l = list_any (λ e. leads l.vertices.entries e.0 l.to) (drop l.entry-index l.front) ≡ true
