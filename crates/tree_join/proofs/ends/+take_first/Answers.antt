use Rattle.std.proofs.lemmas.Grind.{common_steps}
use Rattle.std.proofs.Common.{length, ap, arith}
use Rattle.tree_join.proofs.ends.+take_first.Goals as goal

pub first_of_node-requires-clause-increasing : goal.first_of_node-requires-clause-increasing
first_of_node-requires-clause-increasing g t c =
    rw c.in_ok-taken-in-Node.ensures.entries at c.in-Node.ensures.top.increasing

pub first_of_node-requires-clause-balanced : goal.first_of_node-requires-clause-balanced
first_of_node-requires-clause-balanced g t c =
    let size = ap length c.in_ok-taken-in-Node.ensures.entries in
    (omega (arith, size, c.in-Node.ensures.top.balanced.0), omega (arith, size, c.in-Node.ensures.top.balanced.1))

pub first_of_block-requires-clause-some : goal.first_of_block-requires-clause-some
first_of_block-requires-clause-some g t c = grind (arith, common_steps)

pub returns-then-size-eq0-clause-entries : goal.returns-then-size-eq0-clause-entries
returns-then-size-eq0-clause-entries g t c = grind (arith, common_steps)

pub returns-in_err-taken-in-Node-clause-entries : goal.returns-in_err-taken-in-Node-clause-entries
returns-in_err-taken-in-Node-clause-entries g t c = grind (arith, common_steps)

pub returns-in_err-taken-in-Node-clause-cost : goal.returns-in_err-taken-in-Node-clause-cost
returns-in_err-taken-in-Node-clause-cost g t c = grind (arith, common_steps)

pub returns-in_ok-taken-in-Node-clause-entries : goal.returns-in_ok-taken-in-Node-clause-entries
returns-in_ok-taken-in-Node-clause-entries g t c = grind (arith, common_steps)

pub returns-in_ok-taken-in-Node-clause-cost : goal.returns-in_ok-taken-in-Node-clause-cost
returns-in_ok-taken-in-Node-clause-cost g t c = grind (arith, common_steps)
