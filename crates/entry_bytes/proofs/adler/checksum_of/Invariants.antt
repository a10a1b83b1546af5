use Rattle.std.proofs.Common.{◌-◌, length}
use Rattle.entry_bytes.proofs.Sums.{AreSums}
use Rattle.entry_bytes.proofs.adler.checksum_of.Given as goal

abbrev pub invariant-loop-at : goal.invariant-loop-at
invariant-loop-at l = AreSums l.sums.low l.sums.high l.at l.bytes

abbrev pub decreases-loop-at : goal.decreases-loop-at
decreases-loop-at l = length l.bytes - l.at
