-- What the commands of an input keep, tool by tool.
use Rattle.std.specs.List.{AllByRecursion}
use Rattle.index_tool.specs.IndexRecords.{HasTerms}
use Rattle.interval_tool.specs.IntervalRecords.{HasEnds}
use Rattle.map_records.specs.MapRecords.{HasRegisters}
use Rattle.seq_tool.specs.SeqRecords.{NamesRegisters}
use Rattle.serve_script.specs.Served.{IsServeInput}
use Rattle.tool_input.specs.declared.parsed.Parsed.{Parsed}
use Rattle.tool_input.specs.declared.parsed.Parsed.TheVariants as parsed

-- registers are 0 to 15, ends are in order, terms are lawful, and callers are those of the first record
abbrev pub IsLawful : Parsed → Type 0
IsLawful (parsed.Map commands) = AllByRecursion HasRegisters commands
IsLawful (parsed.Seq commands) = AllByRecursion NamesRegisters commands
IsLawful (parsed.Interval commands) = AllByRecursion HasEnds commands
IsLawful (parsed.Points commands) = Unit {0}
IsLawful (parsed.Index commands) = AllByRecursion HasTerms commands
IsLawful (parsed.Graph commands) = Unit {0}
IsLawful (parsed.Serve commands) = IsServeInput commands
IsLawful (parsed.Gserve commands) = IsServeInput commands
IsLawful (parsed.Check list text) = IsServeInput list
