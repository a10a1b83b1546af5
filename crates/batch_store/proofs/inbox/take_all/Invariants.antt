use Rattle.std.proofs.Common.{◌≡◌, List, [], ◌++◌}
use Rattle.batch_store.specs.Journal.{IsTakenFrom}
use Rattle.batch_store.proofs.inbox.take_all.Given as goal

abbrev pub invariant-loop-caller : goal.invariant-loop-caller
invariant-loop-caller g l =
    (l.room.items ≡ [])
    × ((taken : List _) × (l.pending.items ≡ l.initial.pending.items ++ taken) × IsTakenFrom taken l.initial.intakes l.intakes)
