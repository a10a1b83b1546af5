use Rattle.std.proofs.Common.{◌≡◌, ◌++◌, length}
use Rattle.put_runs.specs.Places.{last_of_each, valued}
use Rattle.put_runs.proofs.groups.last_entries.Given as goal

abbrev pub invariant-loop-key : goal.invariant-loop-key
invariant-loop-key l = valued l.entries (last_of_each l.places) ≡ l.lasts.items ++ valued l.entries (last_of_each l.rest)

abbrev pub decreases-loop-key : goal.decreases-loop-key
decreases-loop-key l = length l.rest
