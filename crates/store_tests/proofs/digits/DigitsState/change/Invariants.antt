use Rattle.std.proofs.Common.{◌≡◌, take}
use Rattle.version_root.specs.Public.{after}
use Rattle.store_tests.specs.Digits.{written}
use Rattle.store_tests.proofs.digits.DigitsState.change.Given as goal

abbrev pub invariant-loop-batch : goal.invariant-loop-batch
invariant-loop-batch g l = l.number ≡ after written l.self (take l.batch-index l.batches)
