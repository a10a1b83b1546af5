use Rattle.std.proofs.Common.{◌≡◌, ◌++◌, drop}
use Rattle.tree_many.specs.Places.{placed}
use Rattle.tree_many.proofs.places.places_of.Given as goal

abbrev pub invariant-loop-place : goal.invariant-loop-place
invariant-loop-place g l = placed 0 l.keys ≡ l.places.items ++ placed l.place (drop l.place l.keys)
