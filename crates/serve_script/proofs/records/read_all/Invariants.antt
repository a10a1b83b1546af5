use Rattle.std.proofs.Common.{◌≡◌}
use Rattle.script.specs.InOrder.{commands_from}
use Rattle.serve_script.specs.Served.{later_command, with_callers}
use Rattle.script.proofs.CommandFacts.{with_front}
use Rattle.serve_script.proofs.records.read_all.Given as goal

abbrev pub invariant-loop-place : goal.invariant-loop-place
invariant-loop-place g l =
    let reading = later_command g.O.Operation.operation_of g.O.Operation.numbers_in g.Q.Query.query_of l.callers in
    with_callers l.callers (commands_from reading 2 l.fn.records.left) ≡ with_front l.commands.items (commands_from reading l.place l.records.left)
