use Rattle.std.proofs.Common.{◌≡◌}
use Rattle.batch_store.specs.Hearing.{AreHeard}
use Rattle.batch_store.proofs.collecting.hear_all.Given as goal

abbrev pub invariant-loop-at : goal.invariant-loop-at
invariant-loop-at g l =
    (l.intakes ≡ l.initial.intakes) × (l.callers ≡ l.initial.callers) × AreHeard l.at l.intakes l.callers
