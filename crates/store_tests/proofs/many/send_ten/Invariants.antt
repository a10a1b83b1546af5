use Rattle.batch_store.specs.Calling.{SameCaller}
use Rattle.store_tests.proofs.many.send_ten.Given as goal

abbrev pub invariant-loop-place : goal.invariant-loop-place
invariant-loop-place l = SameCaller l.initial.caller l.caller
