use Rattle.std.proofs.Common.{arith}
use Rattle.std.proofs.lemmas.Grind.{common_steps}
use Rattle.fork_join.proofs.dividing.+divide.Goals as goal

pub returns-in_ok-right-in-Split : goal.returns-in_ok-right-in-Split
returns-in_ok-right-in-Split g t c = grind (arith, common_steps)
