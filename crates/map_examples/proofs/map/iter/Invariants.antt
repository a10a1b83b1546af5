use Rattle.std.proofs.Common.{[], ◌∷◌, ◌≡◌, ◌++◌}
use Rattle.std.specs.Map.{keys_of}
use Rattle.map_examples.proofs.map.iter.Given as goal

abbrev pub invariant-loop-entry : goal.invariant-loop-entry
invariant-loop-entry l = 1 ∷ 2 ∷ [] ≡ l.keys.items ++ keys_of l.entry-iterator
