use Rattle.std.proofs.Common.{◌≡◌, ◌-◌, drop, length}
use Rattle.csv.specs.Records.{fields_of}
use Rattle.serve_script.specs.Served.{operations_of}
use Rattle.script.proofs.CommandFacts.{with_front}
use Rattle.serve_script.proofs.records.operations.Given as goal

abbrev pub invariant-loop-place : goal.invariant-loop-place
invariant-loop-place g l =
    operations_of g.O.Operation.operation_of g.O.Operation.numbers_in (drop 2 (fields_of l.row))
    ≡ with_front l.ops.items (operations_of g.O.Operation.operation_of g.O.Operation.numbers_in (drop l.place (fields_of l.row)))

abbrev pub decreases-loop-place : goal.decreases-loop-place
decreases-loop-place g l = length (fields_of l.row) - l.place
