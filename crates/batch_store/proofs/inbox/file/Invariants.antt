use Rattle.std.proofs.Common.{◌≡◌, ◌+◌, ◌≤◌, ◌++◌, length, map, vec_len, vec_capacity}
use Rattle.batch_store.specs.Journal.{entry_of}
use Rattle.batch_store.proofs.inbox.file.Given as goal

abbrev pub invariant-loop-item : goal.invariant-loop-item
invariant-loop-item g l =
    (l.pending.items ≡ l.initial.pending.items ++ map (entry_of l.caller) l.yielded)
    × (vec_len l.pending ≡ vec_len l.initial.pending + length l.yielded)
    × (vec_capacity l.initial.pending ≤ vec_capacity l.pending)
