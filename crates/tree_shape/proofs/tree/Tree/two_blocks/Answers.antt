use Rattle.std.proofs.Common.{subst, arith}
use Rattle.map_model.specs.Entries.{IsIncreasing}
use Rattle.map_model.proofs.Keys.{IsIncreasing-front, around}
use Rattle.tree_shape.proofs.tree.Tree.two_blocks.Goals as goal

pub block-requires-clause-increasing : goal.block-requires-clause-increasing
block-requires-clause-increasing g c = IsIncreasing-front g.M.Key.Ord.cmp _ _ (subst (IsIncreasing g.M.Key.Ord.cmp) c.in_ok-front.ensures.whole c.requires.increasing)

pub block-requires-2-clause-increasing : goal.block-requires-2-clause-increasing
block-requires-2-clause-increasing g c = (around _ _ _ _ _ (subst (IsIncreasing g.M.Key.Ord.cmp) c.in_ok-front.ensures.whole c.requires.increasing)).right

pub node-requires-clause-increasing : goal.node-requires-clause-increasing
node-requires-clause-increasing g c = rw (c.in_ok-left.ensures.entries, c.in_ok-right.ensures.entries) (subst (IsIncreasing g.M.Key.Ord.cmp) c.in_ok-front.ensures.whole c.requires.increasing)

pub node-requires-clause-balanced : goal.node-requires-clause-balanced
node-requires-clause-balanced g c =
    let cut = c.in_ok-front.ensures in
    rw (c.in_ok-left.ensures.entries, c.in_ok-right.ensures.entries) (omega (arith, cut.front_length, cut.back_length, c.len.ensures.value, c.requires.long), omega (arith, cut.front_length, cut.back_length, c.len.ensures.value, c.requires.long))

pub node-requires-clause-filled : goal.node-requires-clause-filled
node-requires-clause-filled g c = λ _.
    let cut = c.in_ok-front.ensures in
    let long = c.requires.long in
    let small = c.requires.small in
    rw (c.in_ok-left.ensures.entries, c.in_ok-right.ensures.entries)
    ((omega (arith, cut.front_length, c.len.ensures.value, long), omega (arith, cut.front_length, c.len.ensures.value, small)), (omega (arith, cut.front_length, cut.back_length, c.len.ensures.value, long), omega (arith, cut.front_length, cut.back_length, c.len.ensures.value, small)))

pub returns-clause-entries : goal.returns-clause-entries
returns-clause-entries g c = rw c.in_ok-front.ensures.whole (rw (c.in_ok-left.ensures.entries, c.in_ok-right.ensures.entries) at c.node.ensures.entries)
