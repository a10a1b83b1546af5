-- What the items of a list sum up to, and the greatest of them.
use Rattle.std.specs.Prelude.{ℕ, List}
use Rattle.seq_core.specs.Sums.{sum_of}
use Rattle.aug_monoid.specs.declared.totals.Totals.{Totals}
use Rattle.aug_monoid.specs.Totals.{totals_base, totals_unit, totals_combine}

-- the saturating sum and the greatest of the items, both 0 where there are none
abbrev pub totals_of : List ℕ → Totals
totals_of items = sum_of totals_base totals_unit totals_combine items
