-- The sum, the greatest and the least of a map's values.
use Rattle.std.specs.Prelude.{ℕ, ◌-◌, ◌^◌, List, [], ◌∷◌, Option, None, Some, min}
use Rattle.std.specs.Ordering.{nat_cmp}
use Rattle.aug_monoid.specs.declared.totals.Totals.{Totals}
use Rattle.aug_monoid.specs.Totals.{totals_base, totals_unit, totals_combine}
use Rattle.map_model.specs.Fold.{fold_of, range_fold}

-- the saturating sum and the greatest of the values, both 0 where there are none
abbrev pub totals_of : List (ℕ × ℕ) → Totals
totals_of m = fold_of (λ _ val. totals_base val) totals_unit totals_combine m

-- the same of the entries with keys from lo to hi
abbrev pub range_totals : List (ℕ × ℕ) → ℕ → ℕ → Totals
range_totals m lo hi = range_fold nat_cmp (λ _ val. totals_base val) totals_unit totals_combine m lo hi

-- the least of the values, and where there are none the greatest number of 64 bits, which they all are
abbrev pub least_or_top : List (ℕ × ℕ) → ℕ
least_or_top [] = 2 ^ 64 - 1
least_or_top (e ∷ m) = min e.1 (least_or_top m)

-- the least of the values, none where there are none
abbrev pub least_of : List (ℕ × ℕ) → Option ℕ
least_of [] = None
least_of (e ∷ m) = Some (least_or_top (e ∷ m))
