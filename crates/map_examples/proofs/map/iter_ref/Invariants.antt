use Rattle.std.proofs.Common.{[], ◌∷◌, ◌≡◌, ◌++◌}
use Rattle.std.specs.Map.{keys_of}
use Rattle.map_examples.proofs.map.iter_ref.Given as goal

abbrev pub invariant-loop-key : goal.invariant-loop-key
invariant-loop-key l = 1 ∷ 2 ∷ [] ≡ l.keys.items ++ keys_of l.key-iterator
