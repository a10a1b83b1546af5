use Rattle.std.proofs.Common.{◌≡◌, take}
use Rattle.std.specs.Prelude.{fold}
use Rattle.root_bench.specs.Sums.{sum_up}
use Rattle.root_bench.proofs.total.added.Given as goal

abbrev pub invariant-loop-number : goal.invariant-loop-number
invariant-loop-number l = l.total ≡ fold sum_up l.start (take l.number-index l.numbers)
