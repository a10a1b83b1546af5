use Rattle.std.proofs.Common.{◌≡◌, ◌-◌, length}
use Rattle.std.specs.List.{find, range_with_len}
use Rattle.check_input.specs.RunLine.{is_run_line, run_line}
use Rattle.check_input.proofs.finding.run_line.Given as goal

abbrev pub invariant-loop-at : goal.invariant-loop-at
invariant-loop-at l = record {
  left : run_line l.bytes ≡ find (is_run_line l.bytes) (range_with_len l.at (length l.bytes - l.at));
}
