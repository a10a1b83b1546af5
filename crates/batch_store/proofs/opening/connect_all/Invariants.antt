use Rattle.std.proofs.Common.{◌≡◌, length, vec_len}
use Rattle.batch_store.specs.Hearing.{AreConnected}
use Rattle.batch_store.proofs.opening.connect_all.Given as goal

abbrev pub invariant-loop-reader : goal.invariant-loop-reader
invariant-loop-reader g l =
    AreConnected l.yielded l.intakes.items l.callers.items × (vec_len l.callers ≡ length l.yielded)
