use Rattle.std.proofs.Common.{arith}
use Rattle.std.proofs.lemmas.Grind.{common_steps}
use Rattle.graph_tool.specs.GraphRecords.{graph_command}
use Rattle.graph_tool.proofs.commands.GraphCommandCommand.read.Goals as goal

pub returns-in_ok-alone-3 : goal.returns-in_ok-alone-3
unfolding graph_command
returns-in_ok-alone-3 c = grind (arith, common_steps)

pub returns-else-eq-8 : goal.returns-else-eq-8
unfolding graph_command
returns-else-eq-8 c = grind (arith, common_steps)

pub returns-in_ok-s : goal.returns-in_ok-s
unfolding graph_command
returns-in_ok-s c = grind (arith, common_steps)
