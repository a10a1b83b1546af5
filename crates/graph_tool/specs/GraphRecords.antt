-- The records of the tool graph.
use Rattle.std.specs.Prelude.{ℕ, Result, Err, codes, if◌then◌else◌}
use Rattle.script.specs.Records.{Fields}
use Rattle.script.specs.Rows.{has_verb, makes₀, makes₁, makes₂}
use Rattle.script.specs.Shapes as shape
use Rattle.script.specs.declared.fault.Code.{Code}
use Rattle.script.specs.declared.fault.Code.TheVariants as code
use Rattle.graph_tool.specs.declared.commands.GraphCommand.{GraphCommand}
use Rattle.graph_tool.specs.declared.commands.GraphCommand.TheVariants as command

-- what the record with this number says: a row for each verb, with its fields
unfoldable pub graph_command : ℕ → Fields → Result GraphCommand Code
graph_command place r =
    if has_verb r (codes "add") then makes₁ (command.Add place) (shape.some_pairs r)
    else if has_verb r (codes "cut") then makes₁ (command.Cut place) (shape.some_pairs r)
    else if has_verb r (codes "keep") then makes₀ (command.Keep place) (shape.alone r)
    else if has_verb r (codes "size") then makes₀ (command.Size place) (shape.alone r)
    else if has_verb r (codes "degree") then makes₁ (command.Degree place) (shape.one_number r)
    else if has_verb r (codes "now") then makes₁ (command.Now place) (shape.one_number r)
    else if has_verb r (codes "bfs") then makes₂ (command.Bfs place) (shape.two_numbers r)
    else if has_verb r (codes "comp") then makes₀ (command.Comp place) (shape.alone r)
    else Err code.Verb
