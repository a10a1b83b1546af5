use Rattle.std.proofs.Common.{◌≡◌, take}
use Rattle.std.specs.Prelude.{fold}
use Rattle.serving_tests.specs.Sums.{sum_up}
use Rattle.serving_tests.proofs.guarded.with_all.Given as goal

abbrev pub invariant-loop-op : goal.invariant-loop-op
invariant-loop-op l = l.total ≡ fold sum_up l.start (take l.op-index l.ops)
