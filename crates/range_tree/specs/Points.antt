-- What contracts say of points: the map from (x, y) to weight, by increasing places.
use Rattle.std.specs.Prelude.{ℕ, ◌-◌, ◌^◌, ◌&&◌, Bool, List, Option, length, min, nat_le, sum_by}
use Rattle.std.specs.List.{filter}
use Rattle.aug_monoid.specs.Exact.{pair64_cmp}
use Rattle.aug_monoid.specs.declared.pair64.Pair64.{Pair64}
use Rattle.map_model.specs.Entries.{lookup}
use Rattle.range_tree.specs.declared.points.Point.{Point}
use Rattle.range_tree.specs.declared.points.Rect.{Rect}
use Rattle.range_tree.specs.declared.points.Total.{Total}

-- a point as an entry of the map, and back
abbrev pub entry_of : Point → Pair64 × ℕ
entry_of point = (record { first = point.x; second = point.y }, point.weight)

abbrev pub point_of : Pair64 × ℕ → Point
point_of e = record { x = e.0.first; y = e.0.second; weight = e.1 }

-- the weight of the point at a place, if there is one
abbrev pub weight_at : List (Pair64 × ℕ) → ℕ → ℕ → Option ℕ
weight_at m x y = lookup pair64_cmp m (record { first = x; second = y })

-- the place lies in the rectangle: x1 ≤ x ≤ x2 and y1 ≤ y ≤ y2
abbrev pub contains : Rect → Pair64 → Bool
contains rect place = (nat_le rect.x1 place.first && nat_le place.first rect.x2) && (nat_le rect.y1 place.second && nat_le place.second rect.y2)

-- the points in a rectangle
abbrev pub inside : Rect → List (Pair64 × ℕ) → List (Pair64 × ℕ)
inside rect m = filter (λ e. contains rect e.0) m

abbrev pub weight_sum : List (Pair64 × ℕ) → ℕ
weight_sum m = sum_by (λ e. e.1) m

-- the sum of the weights, or the greatest number of 64 bits if it is more, and how many points there are
abbrev pub total_of : List (Pair64 × ℕ) → Total
total_of m = record { sum = min (weight_sum m) (2 ^ 64 - 1); count = length m }
