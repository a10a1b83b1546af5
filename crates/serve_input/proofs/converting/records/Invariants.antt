use Rattle.std.proofs.Common.{◌≡◌, ◌≤◌, ◌++◌, drop}
use Rattle.serve_input.specs.Converting.{records_from, records_of}
use Rattle.serve_input.proofs.converting.records.Given as goal

abbrev pub invariant-loop-command : goal.invariant-loop-command
invariant-loop-command g l = record {
  few : l.round ≤ l.command-index;
  so_far : records_of l.commands ≡ l.records.items ++ records_from l.round (drop l.command-index l.commands);
}
