use Rattle.std.proofs.Common.{◌≡◌, ◌++◌, [], drop}
use Rattle.points_tool.specs.Effects.{points_after, points_reply}
use Rattle.script.specs.Replies.{replies}
use Rattle.points_tool.proofs.running.run_points.Given as goal

abbrev pub invariant-loop-command : goal.invariant-loop-command
invariant-loop-command g l = replies points_reply points_after [] l.commands ≡ l.text.items ++ replies points_reply points_after l.board (drop l.command-index l.commands)
