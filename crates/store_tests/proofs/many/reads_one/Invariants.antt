use Rattle.batch_store.specs.Calling.{SameCaller}
use Rattle.store_tests.proofs.many.reads_one.Given as goal

abbrev pub invariant-loop : goal.invariant-loop
invariant-loop l = SameCaller l.initial.caller l.caller
