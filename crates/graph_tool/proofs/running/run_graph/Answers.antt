use Rattle.std.proofs.Common.{◌∙◌, ◌+◌, ◌++◌, ap₂, drop, sym}
use Rattle.graph_tool.specs.Effects.{graph_after, graph_reply, no_graphs, seen}
use Rattle.script.specs.Replies.{replies, replies-end, replies-next}
use Rattle.graph_tool.proofs.running.run_graph.Goals as goal

pub loop-command-preserved : goal.loop-command-preserved
loop-command-preserved g c =
    replies-next graph_reply graph_after (replies graph_reply graph_after no_graphs c.args.commands.now) c.loop-command.text.items (seen c.loop-command.graphs) c.args.commands.now c.loop-command.command-index c.command-item.result c.loop-command-test.true c.command-item.is c.loop-command.invariant
    ∙ ap₂ (λ text graphs. text ++ replies graph_reply graph_after graphs (drop (c.loop-command.command-index + 1) c.args.commands.now)) (sym c.in_ok-graph_command.ensures.reply) (sym c.in_ok-graph_command.ensures.after)

pub returns : goal.returns
returns g c = sym (replies-end graph_reply graph_after (replies graph_reply graph_after no_graphs c.args.commands.now) c.loop-command.text.items (seen c.loop-command.graphs) c.args.commands.now c.loop-command.command-index c.loop-command-test.false c.loop-command.invariant)
