use Rattle.std.proofs.Common.{◌-◌, length}
use Rattle.gap_code.proofs.Numbers.{IsReading}
use Rattle.gap_code.proofs.number.number_at.Given as goal

abbrev pub invariant-loop-place : goal.invariant-loop-place
invariant-loop-place l = IsReading l.from l.at l.place l.value l.scale

abbrev pub decreases-loop-place : goal.decreases-loop-place
decreases-loop-place l = length l.from - l.place
