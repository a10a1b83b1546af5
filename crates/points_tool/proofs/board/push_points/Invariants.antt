use Rattle.std.proofs.Common.{◌≡◌, ◌++◌, map, take}
use Rattle.range_tree.specs.Points.{entry_of}
use Rattle.points_tool.specs.Effects.{weighed_entries}
use Rattle.points_tool.proofs.board.push_points.Given as goal

abbrev pub invariant-loop-point : goal.invariant-loop-point
invariant-loop-point l = map entry_of l.list.items ≡ map entry_of l.fn.list.items ++ weighed_entries (take l.point-index l.points)
