-- The texts that the commands of an input may make, tool by tool.
use Rattle.std.specs.Prelude.{◌≡◌, ℕ, List, []}
use Rattle.graph_tool.specs.Effects.{graph_after, graph_reply, no_graphs}
use Rattle.index_tool.specs.Effects.{index_after, index_reply}
use Rattle.interval_tool.specs.Effects.{interval_after, interval_reply}
use Rattle.map_tool.specs.Effects.{map_after, map_reply}
use Rattle.map_tool.specs.Registers.{empty_registers}
use Rattle.points_tool.specs.Effects.{points_after, points_reply}
use Rattle.script.specs.Replies.{replies}
use Rattle.tool_input.specs.declared.parsed.Parsed.{Parsed}
use Rattle.tool_input.specs.declared.parsed.Parsed.TheVariants as parsed
use Rattle.seq_tool.specs.Effects.{seq_after, seq_reply}
use Rattle.seq_tool.specs.Registers as sequences
use Rattle.check_tool.specs.Output.{IsCheckOutput}
use Rattle.serve_tool.specs.GraphOutput.{IsGserveOutput}
use Rattle.serve_tool.specs.Output.{IsServeOutput}

-- each tool begins with nothing, and all but two have one text for an input: serve and gserve have that of any lawful history
abbrev pub IsOutput : Parsed → List ℕ → Type 0
IsOutput (parsed.Map commands) text = text ≡ replies map_reply map_after empty_registers commands
IsOutput (parsed.Seq commands) text = text ≡ replies seq_reply seq_after sequences.empty_registers commands
IsOutput (parsed.Interval commands) text = text ≡ replies interval_reply interval_after [] commands
IsOutput (parsed.Points commands) text = text ≡ replies points_reply points_after [] commands
IsOutput (parsed.Index commands) text = text ≡ replies index_reply index_after [] commands
IsOutput (parsed.Graph commands) text = text ≡ replies graph_reply graph_after no_graphs commands
IsOutput (parsed.Serve commands) text = IsServeOutput commands text
IsOutput (parsed.Gserve commands) text = IsGserveOutput commands text
IsOutput (parsed.Check commands run) text = IsCheckOutput commands run text

-- the commands of a tool that does not wait
abbrev pub IsPlain : Parsed → Type 0
IsPlain (parsed.Map commands) = Unit {0}
IsPlain (parsed.Seq commands) = Unit {0}
IsPlain (parsed.Interval commands) = Unit {0}
IsPlain (parsed.Points commands) = Unit {0}
IsPlain (parsed.Index commands) = Unit {0}
IsPlain (parsed.Graph commands) = Unit {0}
IsPlain (parsed.Serve commands) = ⊥
IsPlain (parsed.Gserve commands) = ⊥
IsPlain (parsed.Check commands run) = Unit {0}
