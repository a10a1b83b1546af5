-- What a command of the tool points replies, and the points after it.
use Rattle.std.specs.Prelude.{ℕ, List, [], ◌∷◌, codes, length, map}
use Rattle.aug_monoid.specs.declared.pair64.Pair64.{Pair64}
use Rattle.aug_monoid.specs.Exact.{pair64_cmp}
use Rattle.map_model.specs.Operations.{after, dels, puts}
use Rattle.range_tree.specs.declared.points.Point.{Point}
use Rattle.range_tree.specs.declared.points.Rect.{Rect}
use Rattle.range_tree.specs.declared.points.Total.{Total}
use Rattle.range_tree.specs.Points.{inside, point_of, total_of}
use Rattle.script.specs.Lines.{counted, line_of}
use Rattle.points_tool.specs.declared.weighed.Weighed.{Weighed}
use Rattle.points_tool.specs.declared.commands.PointsCommand.{PointsCommand}
use Rattle.points_tool.specs.declared.commands.PointsCommand.TheVariants as command

-- points as entries of the map from (x, y) to weight
abbrev pub weighed_entries : List Weighed → List (Pair64 × ℕ)
weighed_entries points = map (λ p. (record { first = p.x; second = p.y }, p.w)) points

abbrev pub rect_of : ℕ → ℕ → ℕ → ℕ → Rect
rect_of x1 x2 y1 y2 = record { x1 = x1; x2 = x2; y1 = y1; y2 = y2 }

abbrev pub total_line : Total → List ℕ
total_line total = line_of (codes "sum") (total.sum ∷ total.count ∷ [])

-- x, y and weight of a point
abbrev pub point_numbers : Point → List ℕ
point_numbers p = p.x ∷ p.y ∷ p.weight ∷ []

abbrev pub points_line : List Point → List ℕ
points_line points = line_of (codes "points") (counted point_numbers points)

abbrev pub points_after : List (Pair64 × ℕ) → PointsCommand → List (Pair64 × ℕ)
points_after m (command.Add place points) = after pair64_cmp m (puts (weighed_entries points))
points_after m (command.Del place places) = after pair64_cmp m (dels places)
points_after m (command.Size place) = m
points_after m (command.Sum place x1 x2 y1 y2) = m
points_after m (command.List place x1 x2 y1 y2) = m

abbrev pub points_reply : List (Pair64 × ℕ) → PointsCommand → List ℕ
points_reply m (command.Add place points) = line_of (codes "ok") []
points_reply m (command.Del place places) = line_of (codes "ok") []
points_reply m (command.Size place) = line_of (codes "size") (length m ∷ [])
points_reply m (command.Sum place x1 x2 y1 y2) = total_line (total_of (inside (rect_of x1 x2 y1 y2) m))
points_reply m (command.List place x1 x2 y1 y2) = points_line (map point_of (inside (rect_of x1 x2 y1 y2) m))
