use Rattle.std.proofs.Common.{◌≡◌, ◌++◌, drop}
use Rattle.put_runs.specs.Places.{placed}
use Rattle.put_runs.proofs.sorting.places_of.Given as goal

abbrev pub invariant-loop-place : goal.invariant-loop-place
invariant-loop-place l = placed 0 l.entries ≡ l.places.items ++ placed l.place (drop l.place l.entries)
