use Rattle.std.proofs.Common.{◌≡◌, ◌++◌, map}
use Rattle.inverted_index.specs.Batches.{first_weights}
use Rattle.inverted_index.proofs.table.rows_of.Given as goal

abbrev pub invariant-loop-term : goal.invariant-loop-term
invariant-loop-term l = map (λ e. (e.0, first_weights e.1)) l.fn.table.entries ≡ l.rows.items ++ map (λ e. (e.0, first_weights e.1)) l.term-iterator
