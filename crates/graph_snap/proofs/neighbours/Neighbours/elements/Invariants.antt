use Rattle.std.proofs.Common.{◌≡◌, ◌++◌}
use Rattle.std.specs.Map.{keys_of}
use Rattle.graph_snap.proofs.neighbours.Neighbours.elements.Given as goal

abbrev pub invariant-loop-entry : goal.invariant-loop-entry
invariant-loop-entry l = keys_of l.self ≡ l.list.items ++ keys_of l.entry-iterator
