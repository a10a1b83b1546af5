use Rattle.std.proofs.Common.{◌≡◌, ℕ, ◌<◌, ◌+◌, length, get_or}
use Rattle.batch_store.specs.Round.{AreTold}
use Rattle.batch_store.proofs.closing.show_all.Given as goal

abbrev pub invariant-loop-at : goal.invariant-loop-at
invariant-loop-at g l =
    (l.writer ≡ l.initial.writer)
    × AreTold l.writer.journal l.initial.callers l.callers
    × ((k : ℕ) (e : _) → k < l.at → k < length l.callers → (get_or l.callers k e).reader.seen ≡ l.writer.journal)
    × ((k : ℕ) (e : _) → l.at < k + 1 → k < length l.callers → get_or l.callers k e ≡ get_or l.initial.callers k e)
