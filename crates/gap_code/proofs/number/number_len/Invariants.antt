use Rattle.std.proofs.Common.{◌≡◌, ◌+◌, ◌≤◌, length}
use Rattle.gap_code.specs.Leb.{leb}
use Rattle.gap_code.proofs.number.number_len.Given as goal

abbrev pub invariant-loop-rest : goal.invariant-loop-rest
invariant-loop-rest l = (l.len + length (leb l.rest) ≡ 1 + length (leb l.number)) × (l.len + l.rest ≤ l.number + 1)

abbrev pub decreases-loop-rest : goal.decreases-loop-rest
decreases-loop-rest l = l.rest
