-- The sum and the greatest of a map's values.
use Rattle.std.specs.Prelude.{ℕ, List}
use Rattle.aug_monoid.specs.declared.totals.Totals.{Totals}
use Rattle.aug_monoid.specs.Totals.{totals_base, totals_unit, totals_combine}
use Rattle.map_model.specs.Fold.{fold_of, range_fold}
use Rattle.text_handle.specs.Keys.{bytes_cmp}

-- the saturating sum and the greatest of the values, both 0 where there are none
abbrev pub totals_of : List (List ℕ × ℕ) → Totals
totals_of m = fold_of (λ _ val. totals_base val) totals_unit totals_combine m

-- the same of the entries with keys from lo to hi
abbrev pub range_totals : List (List ℕ × ℕ) → List ℕ → List ℕ → Totals
range_totals m lo hi = range_fold bytes_cmp (λ _ val. totals_base val) totals_unit totals_combine m lo hi
