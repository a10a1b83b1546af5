use Rattle.std.proofs.Common.{◌≡◌, take}
use Rattle.run_check.specs.Placing.{placed_of}
use Rattle.run_check.proofs.placed.placed_of.Given as goal

abbrev pub invariant-loop-record : goal.invariant-loop-record
invariant-loop-record g l = l.placed.items ≡ placed_of (take l.record-index l.records)
