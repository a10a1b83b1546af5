use Rattle.std.proofs.Common.{◌≡◌, List, ◌++◌, length}
use Rattle.batch_store.specs.Journal.{IsTakenFrom}
use Rattle.batch_store.specs.Hearing.{AreHeard, HeardAll}
use Rattle.batch_store.proofs.collecting.collect_all.Given as goal

abbrev pub invariant-loop-at : goal.invariant-loop-at
invariant-loop-at g l =
    (l.callers ≡ l.initial.callers)
    × ((taken : List _) × (l.pending.items ≡ l.initial.pending.items ++ taken) × IsTakenFrom taken l.initial.intakes l.intakes)
    × AreHeard (length l.intakes) l.intakes l.callers
    × HeardAll l.at l.intakes l.callers
