use Rattle.std.proofs.Common.{◌≡◌, ◌+◌, ◌<◌, ℕ, true, get_or}
use Rattle.std.specs.Ordering.{is_lt}
use Rattle.entry_lists.proofs.slicing.count_below.Given as goal

abbrev pub invariant-loop-entry : goal.invariant-loop-entry
invariant-loop-entry g l = (l.count ≡ l.entry-index) × ((j : ℕ) (d : g.row.K.Denot × g.row.V.Denot) → j < l.count → is_lt (g.K.Ord.cmp (get_or l.entries j d).0 l.key) ≡ true)
    × (l.steps ≡ l.initial.steps + l.count)
