use Rattle.batch_store.specs.Round.{AreSame}
use Rattle.store_tests.proofs.refusing.send_all.Given as goal

abbrev pub invariant-loop-at : goal.invariant-loop-at
invariant-loop-at l = AreSame l.initial.callers.items l.callers.items
