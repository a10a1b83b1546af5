-- Points with their weights, as fields spell them.
use Rattle.std.specs.Prelude.{ℕ, List, [], ◌∷◌, Result, Ok, Err, drop}
use Rattle.points_tool.specs.declared.weighed.Weighed.{Weighed}
use Rattle.script.specs.Fields.{or_code}
use Rattle.script.specs.Numbers.{number_of}
use Rattle.script.specs.Records.{Fields}
use Rattle.script.specs.Results.{◌>>=◌}
use Rattle.script.specs.Shapes.{with_at_least, with_groups}
use Rattle.script.specs.declared.fault.Code.{Code}
use Rattle.script.specs.declared.fault.Code.TheVariants as code

abbrev pub point_of : List ℕ → List ℕ → List ℕ → Result Weighed Code
point_of a b c = do
  x ← or_code code.Number (number_of a)
  y ← or_code code.Number (number_of b)
  w ← or_code code.Number (number_of c)
  Ok (record { x = x; y = y; w = w })

-- fields that are points with their weights
unfoldable pub points_of : Fields → Result (List Weighed) Code
points_of [] = Ok []
points_of (a ∷ []) = Err code.Fields
points_of (a ∷ b ∷ []) = Err code.Fields
points_of (a ∷ b ∷ c ∷ fs) = do
  point ← point_of a b c
  points ← points_of fs
  Ok (point ∷ points)

-- a verb and any number of points with their weights, at least one
abbrev pub some_points : Fields → Result (List Weighed) Code
some_points r = with_at_least 4 r (with_groups 3 r (points_of (drop 1 r)))
