-- The commands of an input, or its first bad record.
use Rattle.std.specs.Prelude.{[], ℕ, List, Result, Ok}
use Rattle.check_input.specs.Input.{check_input_of}
use Rattle.graph_tool.specs.GraphRecords.{graph_command}
use Rattle.index_tool.specs.IndexRecords.{index_command}
use Rattle.interval_tool.specs.IntervalRecords.{interval_command}
use Rattle.map_records.specs.MapRecords.{map_command}
use Rattle.points_tool.specs.PointsRecords.{points_command}
use Rattle.script.specs.Records.{records_of}
use Rattle.script.specs.InOrder.{commands_from}
use Rattle.script.specs.Results.{◌>>=◌}
use Rattle.serve_script.specs.Gserve as gserve
use Rattle.serve_script.specs.Serve as serve
use Rattle.serve_script.specs.Served.{served_commands_of}
use Rattle.seq_tool.specs.SeqRecords.{seq_command}
use Rattle.script.specs.declared.fault.BadRecord.{BadRecord}
use Rattle.tool_input.specs.declared.parsed.Parsed.{Parsed}
use Rattle.tool_input.specs.declared.parsed.Parsed.TheVariants as parsed
use Rattle.tool_input.specs.declared.parsed.Tool.{Tool}
use Rattle.tool_input.specs.declared.parsed.Tool.TheVariants as tool

-- what the input of a tool says
abbrev pub commands_of : Tool → List ℕ → Result Parsed BadRecord
commands_of tool.Map bytes = do
  commands ← commands_from (λ _. map_command) 1 (records_of bytes)
  Ok (parsed.Map commands)
commands_of tool.Seq bytes = do
  commands ← commands_from seq_command 1 (records_of bytes)
  Ok (parsed.Seq commands)
commands_of tool.Interval bytes = do
  commands ← commands_from interval_command 1 (records_of bytes)
  Ok (parsed.Interval commands)
commands_of tool.Points bytes = do
  commands ← commands_from points_command 1 (records_of bytes)
  Ok (parsed.Points commands)
commands_of tool.Index bytes = do
  commands ← commands_from index_command 1 (records_of bytes)
  Ok (parsed.Index commands)
commands_of tool.Graph bytes = do
  commands ← commands_from graph_command 1 (records_of bytes)
  Ok (parsed.Graph commands)
commands_of tool.Serve bytes = do
  commands ← served_commands_of serve.operation_of serve.numbers_in serve.query_of bytes
  Ok (parsed.Serve commands)
commands_of tool.Gserve bytes = do
  commands ← served_commands_of gserve.operation_of gserve.numbers_in gserve.query_of bytes
  Ok (parsed.Gserve commands)
commands_of tool.Check bytes = do
  input ← check_input_of bytes
  Ok (parsed.Check input.list input.text)
commands_of tool.Sample bytes = Ok (parsed.Map [])
