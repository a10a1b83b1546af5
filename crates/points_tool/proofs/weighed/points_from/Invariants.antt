use Rattle.std.proofs.Common.{◌≡◌, ◌+◌, ◌*◌, drop}
use Rattle.csv.specs.Records.{fields_of}
use Rattle.points_tool.specs.Weighed.{points_of}
use Rattle.script.proofs.CommandFacts.{with_front}
use Rattle.points_tool.proofs.weighed.points_from.Given as goal

abbrev pub invariant-loop-i : goal.invariant-loop-i
invariant-loop-i l = points_of (drop 1 (fields_of l.row)) ≡ with_front l.points.items (points_of (drop (3 * l.i + 1) (fields_of l.row)))
