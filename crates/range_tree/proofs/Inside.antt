-- The points in a rectangle, as the two ranges of places give them.
use Rattle.std.proofs.Common.{◌≡◌, ℕ, ◌-◌, ◌^◌, ◌<◌, ◌≤◌, Bool, ◌&&◌, List, [], length, min, nat_le, ap, ap₂, ◌∙◌, arith}
use Rattle.std.specs.List.{filter}
use Rattle.std.specs.Ordering.{is_ge, is_le, nat_cmp, ordering_then}
use Rattle.std.proofs.lemmas.Bool.Decides.{nat_tests}
use Rattle.aug_monoid.specs.declared.pair64.Pair64.{Pair64}
use Rattle.aug_monoid.specs.Exact.{pair64_cmp}
use Rattle.map_model.specs.Entries.{AllKeys, IsIncreasing}
use Rattle.map_model.specs.Fold.{range_fold}
use Rattle.map_model.proofs.Filters.{filter-filter, filter-same_keys}
use Rattle.map_model.proofs.Keys.{AllKeys-map, IsIncreasing-filter}
use Rattle.map_model.proofs.Lengths.{length-filter_le}
use Rattle.range_tree.specs.declared.points.Rect.{Rect}
use Rattle.range_tree.specs.declared.points.Total.{Total}
use Rattle.range_tree.specs.Places.{IsPlace, swapped, least_at, greatest_at, lines}
use Rattle.range_tree.specs.Rows.{row_of, rows_of_both}
use Rattle.range_tree.specs.Points.{contains, inside, total_of, weight_sum}
use Rattle.range_tree.specs.Totals.{capped, rows_total, total-rows}
use Rattle.range_tree.specs.Listings.{rows_points, points-rows}

-- a place between two lines
lined : (lo hi first second : ℕ) → second < 2 ^ 64 → (is_ge (ordering_then (nat_cmp first lo) (nat_cmp second 0)) && is_le (ordering_then (nat_cmp first hi) (nat_cmp second (2 ^ 64 - 1)))) ≡ (nat_le lo first && nat_le first hi)
lined lo hi first second h = grind (arith, nat_tests)

abbrev between : ℕ → ℕ → Pair64 → Bool
between lo hi k = is_ge (pair64_cmp k (least_at lo)) && is_le (pair64_cmp k (greatest_at hi))

lined_place : (rect : Rect) (k : Pair64) → IsPlace k → (between rect.x1 rect.x2 k && between rect.y1 rect.y2 (swapped k)) ≡ contains rect k
lined_place rect k h = ap₂ (λ a b. a && b) (lined rect.x1 rect.x2 k.first k.second h.1) (lined rect.y1 rect.y2 k.second k.first h.0)

-- the columns of a rectangle, and of these the rows
filter-lines : (rect : Rect) (m : List (Pair64 × ℕ)) → AllKeys IsPlace m → filter (λ e. between rect.y1 rect.y2 (swapped e.0)) (lines rect.x1 rect.x2 m) ≡ inside rect m
filter-lines rect m a =
    filter-filter (λ (e : Pair64 × ℕ). between rect.x1 rect.x2 e.0) (λ e. between rect.y1 rect.y2 (swapped e.0)) m
    ∙ filter-same_keys (λ k. between rect.x1 rect.x2 k && between rect.y1 rect.y2 (swapped k)) (contains rect) m (AllKeys-map IsPlace (λ k. (between rect.x1 rect.x2 k && between rect.y1 rect.y2 (swapped k)) ≡ contains rect k) (lined_place rect) m a)

columns_increase : (rect : Rect) (m : List (Pair64 × ℕ)) → IsIncreasing pair64_cmp m → IsIncreasing pair64_cmp (lines rect.x1 rect.x2 m)
columns_increase rect m s = IsIncreasing-filter pair64_cmp (λ (e : Pair64 × ℕ). between rect.x1 rect.x2 e.0) m s

total_capped : (m : List (Pair64 × ℕ)) → length m < 2 ^ 60 → capped (weight_sum m) (length m) ≡ total_of m
total_capped m h = let with_count : ℕ → Total = λ n. record { sum = min (weight_sum m) (2 ^ 64 - 1); count = n } in ap with_count {x = min (length m) (2 ^ 64 - 1)} {y = length m} (omega arith)

pub total_is_inside : (rect : Rect) (m : List (Pair64 × ℕ)) → IsIncreasing pair64_cmp m → AllKeys IsPlace m → length m < 2 ^ 60 → rows_total rect.y1 rect.y2 (range_fold pair64_cmp row_of [] rows_of_both m (least_at rect.x1) (greatest_at rect.x2)) ≡ total_of (inside rect m)
total_is_inside rect m s a h =
    let few : length (inside rect m) ≤ length m = length-filter_le (λ (e : Pair64 × ℕ). contains rect e.0) m in
    total-rows (between rect.y1 rect.y2) (lines rect.x1 rect.x2 m) (columns_increase rect m s)
    ∙ ap (λ z. capped (weight_sum z) (length z)) (filter-lines rect m a)
    ∙ total_capped (inside rect m) (omega arith)

pub points_are_inside : (rect : Rect) (m : List (Pair64 × ℕ)) → IsIncreasing pair64_cmp m → AllKeys IsPlace m → rows_points rect.y1 rect.y2 (range_fold pair64_cmp row_of [] rows_of_both m (least_at rect.x1) (greatest_at rect.x2)) ≡ inside rect m
points_are_inside rect m s a = points-rows (between rect.y1 rect.y2) (lines rect.x1 rect.x2 m) (columns_increase rect m s) ∙ filter-lines rect m a
