use Rattle.std.proofs.Common.{◌∙◌, ◌+◌, ◌++◌, [], ap₂, drop, sym}
use Rattle.points_tool.specs.Effects.{points_after, points_reply}
use Rattle.script.specs.Replies.{replies, replies-end, replies-next}
use Rattle.points_tool.proofs.running.run_points.Goals as goal

pub loop-command-preserved : goal.loop-command-preserved
loop-command-preserved g c =
    replies-next points_reply points_after (replies points_reply points_after [] c.args.commands.now) c.loop-command.text.items c.loop-command.board c.args.commands.now c.loop-command.command-index c.command-item.result c.loop-command-test.true c.command-item.is c.loop-command.invariant
    ∙ ap₂ (λ text board. text ++ replies points_reply points_after board (drop (c.loop-command.command-index + 1) c.args.commands.now)) (sym c.in_ok-board.ensures.reply) (sym c.in_ok-board.ensures.after)

pub returns : goal.returns
returns g c = sym (replies-end points_reply points_after (replies points_reply points_after [] c.args.commands.now) c.loop-command.text.items c.loop-command.board c.args.commands.now c.loop-command.command-index c.loop-command-test.false c.loop-command.invariant)
