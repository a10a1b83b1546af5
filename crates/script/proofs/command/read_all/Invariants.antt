use Rattle.std.proofs.Common.{◌≡◌}
use Rattle.script.specs.Records.{records_of}
use Rattle.script.specs.InOrder.{commands_from}
use Rattle.script.proofs.CommandFacts.{with_front}
use Rattle.script.proofs.command.read_all.Given as goal

abbrev pub invariant-loop-place : goal.invariant-loop-place
invariant-loop-place g l = commands_from g.C.Command.reading 1 (records_of l.fn.text) ≡ with_front l.commands.items (commands_from g.C.Command.reading l.place l.records.left)
