use Rattle.std.proofs.Common.{◌≡◌, ◌++◌, drop}
use Rattle.graph_tool.specs.Effects.{graph_after, graph_reply, no_graphs, seen}
use Rattle.script.specs.Replies.{replies}
use Rattle.graph_tool.proofs.running.run_graph.Given as goal

abbrev pub invariant-loop-command : goal.invariant-loop-command
invariant-loop-command g l = replies graph_reply graph_after no_graphs l.commands ≡ l.text.items ++ replies graph_reply graph_after (seen l.graphs) (drop l.command-index l.commands)
