use Rattle.std.proofs.Common.{ℕ, ◌-◌, length}
use Rattle.gap_code.proofs.Numbers.{IsReading}
use Rattle.gap_code.proofs.number.number_end.Given as goal

abbrev pub invariant-loop-place : goal.invariant-loop-place
invariant-loop-place l = (value : ℕ) × ((scale : ℕ) × IsReading l.from l.at l.place value scale)

abbrev pub decreases-loop-place : goal.decreases-loop-place
decreases-loop-place l = length l.from - l.place
