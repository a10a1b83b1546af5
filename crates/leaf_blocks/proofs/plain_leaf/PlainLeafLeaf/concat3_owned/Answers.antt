use Rattle.std.proofs.Common.{arith}
use Rattle.std.proofs.lemmas.Grind.{common_steps}
use Rattle.leaf_blocks.proofs.plain_leaf.PlainLeafLeaf.concat3_owned.Goals as goal

pub push_reserved-requires : goal.push_reserved-requires
push_reserved-requires g c = grind (arith, common_steps)

pub invariant_of-result : goal.invariant_of-result
invariant_of-result g c = grind (arith, common_steps)

pub returns : goal.returns
returns g c = grind (arith, common_steps)
