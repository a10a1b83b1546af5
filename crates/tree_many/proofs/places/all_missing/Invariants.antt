use Rattle.std.proofs.Common.{◌≡◌, length}
use Rattle.tree_many.proofs.places.all_missing.Given as goal

abbrev pub invariant-loop-key : goal.invariant-loop-key
invariant-loop-key g l = length l.outs.items ≡ l._key-index
