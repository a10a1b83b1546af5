use Rattle.std.proofs.Common.{◌≡◌, take}
use Rattle.std.specs.Ordering.{nat_cmp}
use Rattle.map_model.specs.SetOperations.{difference}
use Rattle.put_runs.proofs.putting.new_keys.Given as goal

abbrev pub invariant-loop-key : goal.invariant-loop-key
invariant-loop-key g l = l.new.items ≡ difference nat_cmp (take l.key-index l.places) l.map.entries
