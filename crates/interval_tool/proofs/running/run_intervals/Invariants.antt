use Rattle.std.proofs.Common.{◌≡◌, ◌++◌, [], drop}
use Rattle.std.specs.List.{AllByRecursion}
use Rattle.interval_tool.specs.Effects.{interval_after, interval_reply}
use Rattle.interval_tool.specs.IntervalRecords.{HasEnds}
use Rattle.script.specs.Replies.{replies}
use Rattle.interval_tool.proofs.running.run_intervals.Given as goal

abbrev pub invariant-loop-command : goal.invariant-loop-command
invariant-loop-command l = record {
  ends : AllByRecursion HasEnds (drop l.command-index l.commands);
  same : replies interval_reply interval_after [] l.commands ≡ l.text.items ++ replies interval_reply interval_after l.intervals (drop l.command-index l.commands);
}
