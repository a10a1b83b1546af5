use Rattle.std.proofs.Common.{◌≡◌, ◌++◌, length, take}
use Rattle.gap_code.specs.Leb.{leb}
use Rattle.gap_code.proofs.number.push_number.Given as goal

abbrev pub invariant-loop-rest : goal.invariant-loop-rest
invariant-loop-rest l = (l.out.items ++ leb l.rest ≡ l.fn.out.items ++ leb l.number) × (take (length l.fn.out.items) l.out.items ≡ l.fn.out.items)

abbrev pub decreases-loop-rest : goal.decreases-loop-rest
decreases-loop-rest l = l.rest
