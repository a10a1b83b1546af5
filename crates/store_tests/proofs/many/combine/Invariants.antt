use Rattle.batch_store.specs.Keeping.{SameStore}
use Rattle.store_tests.proofs.many.combine.Given as goal

abbrev pub invariant-loop : goal.invariant-loop
invariant-loop g l = SameStore l.initial.store l.store
