-- What the tool map says of the values of a map, and of two maps.
use Rattle.std.specs.Prelude.{ℕ, ◌-◌, ◌&&◌, List, [], ◌∷◌, Bool, false, not, Option, Some, None, length, map, nat_le, nat_lt, slice_get}
use Rattle.std.specs.List.{filter}
use Rattle.std.specs.Ordering.{nat_cmp}
use Rattle.map_model.specs.Fold.{fold_of, range_fold}
use Rattle.aug_monoid.specs.Totals.{totals_base, totals_combine, totals_unit}
use Rattle.aug_monoid.specs.declared.totals.Totals.{Totals}
use Rattle.aug_monoid.specs.declared.pair64.Pair64.{Pair64}

-- the saturating sum and the greatest of all values
unfoldable pub totals_of : List (ℕ × ℕ) → Totals
totals_of m = fold_of (λ (key val : ℕ). totals_base val) totals_unit totals_combine m

-- those of the values at keys from lo to hi
unfoldable pub range_totals : List (ℕ × ℕ) → ℕ → ℕ → Totals
range_totals m lo hi = range_fold nat_cmp (λ (key val : ℕ). totals_base val) totals_unit totals_combine m lo hi

-- the entries whose values lie from lo to hi
abbrev pub values_within : List (ℕ × ℕ) → ℕ → ℕ → List (ℕ × ℕ)
values_within m lo hi = filter (λ e. nat_le lo e.1 && nat_le e.1 hi) m

-- the entries whose values are at least t
abbrev pub values_from : List (ℕ × ℕ) → ℕ → List (ℕ × ℕ)
values_from m t = filter (λ e. nat_le t e.1) m

-- pairs as entries
abbrev pub entries_of : List Pair64 → List (ℕ × ℕ)
entries_of pairs = map (λ p. (p.first, p.second)) pairs

-- the key and the value of an entry
abbrev pub entry_numbers : ℕ × ℕ → List ℕ
entry_numbers e = e.0 ∷ e.1 ∷ []

-- a last entry whose key isn't less than that of a first one
abbrev pub ends_overlap : Option (ℕ × ℕ) → Option (ℕ × ℕ) → Bool
ends_overlap None first = false
ends_overlap (Some last) None = false
ends_overlap (Some last) (Some first) = not (nat_lt last.0 first.0)

-- both maps have entries, and the greatest key of a isn't less than the least key of b
abbrev pub overlaps : List (ℕ × ℕ) → List (ℕ × ℕ) → Bool
overlaps a b = ends_overlap (slice_get a (length a - 1)) (slice_get b 0)
