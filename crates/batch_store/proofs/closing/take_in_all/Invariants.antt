use Rattle.std.proofs.Common.{◌≡◌}
use Rattle.batch_store.specs.Hearing.{HaveSeen}
use Rattle.batch_store.proofs.closing.take_in_all.Given as goal

abbrev pub invariant-loop-at : goal.invariant-loop-at
invariant-loop-at g l =
    (l.writer ≡ l.initial.writer) × (l.callers ≡ l.initial.callers) × HaveSeen l.at l.writer.journal l.callers
