-- The records of the tool points.
use Rattle.std.specs.Prelude.{ℕ, Result, Err, codes, if◌then◌else◌}
use Rattle.script.specs.Records.{Fields}
use Rattle.script.specs.Rows.{has_verb, makes₀, makes₁, makes₄}
use Rattle.script.specs.Shapes as shape
use Rattle.points_tool.specs.Weighed.{some_points}
use Rattle.script.specs.declared.fault.Code.{Code}
use Rattle.script.specs.declared.fault.Code.TheVariants as code
use Rattle.points_tool.specs.declared.commands.PointsCommand.{PointsCommand}
use Rattle.points_tool.specs.declared.commands.PointsCommand.TheVariants as command

-- what the record with this number says: a row for each verb, with its fields
unfoldable pub points_command : ℕ → Fields → Result PointsCommand Code
points_command place r =
    if has_verb r (codes "add") then makes₁ (command.Add place) (some_points r)
    else if has_verb r (codes "del") then makes₁ (command.Del place) (shape.some_pairs r)
    else if has_verb r (codes "size") then makes₀ (command.Size place) (shape.alone r)
    else if has_verb r (codes "sum") then makes₄ (command.Sum place) (shape.four_numbers r)
    else if has_verb r (codes "list") then makes₄ (command.List place) (shape.four_numbers r)
    else Err code.Verb
