use Rattle.std.proofs.Common.{◌≡◌, ◌++◌, drop}
use Rattle.put_runs.specs.Places.{counted}
use Rattle.put_runs.proofs.marks.counts.Given as goal

abbrev pub invariant-loop-mark : goal.invariant-loop-mark
invariant-loop-mark l = counted l.fn.size l.marks ≡ l.sizes.items ++ counted l.size (drop l.mark-index l.marks)
