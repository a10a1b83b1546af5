-- The records of the tool interval.
use Rattle.std.specs.Prelude.{◌≤◌, ℕ, Result, Err, codes, if◌then◌else◌}
use Rattle.script.specs.Records.{Fields}
use Rattle.script.specs.Rows.{has_verb, makes₀, makes₁, makes₂}
use Rattle.script.specs.Shapes as shape
use Rattle.script.specs.declared.fault.Code.{Code}
use Rattle.script.specs.declared.fault.Code.TheVariants as code
use Rattle.interval_tool.specs.declared.commands.IntervalCommand.{IntervalCommand}
use Rattle.interval_tool.specs.declared.commands.IntervalCommand.TheVariants as command

-- what the record with this number says: a row for each verb, with its fields
unfoldable pub interval_command : ℕ → Fields → Result IntervalCommand Code
interval_command place r =
    if has_verb r (codes "add") then makes₂ (command.Add place) (shape.two_ends r)
    else if has_verb r (codes "del") then makes₂ (command.Del place) (shape.two_ends r)
    else if has_verb r (codes "size") then makes₀ (command.Size place) (shape.alone r)
    else if has_verb r (codes "any") then makes₁ (command.Any place) (shape.one_number r)
    else if has_verb r (codes "stab") then makes₁ (command.Stab place) (shape.one_number r)
    else if has_verb r (codes "over") then makes₂ (command.Over place) (shape.two_ends r)
    else Err code.Verb

-- the ends of an interval, and of a range, are in order
abbrev pub HasEnds : IntervalCommand → Type 0
HasEnds (command.Add place l r) = l ≤ r
HasEnds (command.Del place l r) = l ≤ r
HasEnds (command.Size place) = Unit {0}
HasEnds (command.Any place p) = Unit {0}
HasEnds (command.Stab place p) = Unit {0}
HasEnds (command.Over place lo hi) = lo ≤ hi
