use Rattle.std.proofs.Common.{◌≡◌, take}
use Rattle.std.specs.Prelude.{fold}
use Rattle.store_tests.specs.Digits.{written}
use Rattle.store_tests.proofs.digits.with_all.Given as goal

abbrev pub invariant-loop-digit : goal.invariant-loop-digit
invariant-loop-digit l = l.number ≡ fold written l.start (take l.digit-index l.digits)
