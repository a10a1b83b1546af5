use Rattle.std.proofs.Common.{◌∙◌, length, ap, arith}
use Rattle.map_model.proofs.Cuts.{length-around}
use Rattle.bulk_passes.proofs.Filtered.{cut_filtered}
use Rattle.bulk_passes.proofs.filtering.FilteringDivideRefTreeOptionTuple2KeyValTree.open.Goals as goal

pub returns-in_ok-middle-in-Node-clause-opened : goal.returns-in_ok-middle-in-Node-clause-opened
returns-in_ok-middle-in-Node-clause-opened g c =
    let node = c.in-Node.ensures.top in
    let left = c.in-Node.left.now.entries in
    let right = c.in-Node.right.now.entries in
    let put = cut_filtered g.M.Key.Ord.cmp (g.T.Test.passes c.args.self.now.test.now) c.args.part c.in-Node.left c.in-Node.right c.in-Node.key.now c.in-Node.val.now c.in_ok-middle-in-Node.middle node.entries_are node.increasing c.in_ok-middle-in-Node.ensures.value in
    let whole = ap length node.entries_are ∙ length-around left (c.in-Node.key.now, c.in-Node.val.now) right in
    (put, tt, tt, omega (arith, whole), omega (arith, whole))

pub returns-in_ok-middle-in-Node-clause-cost : goal.returns-in_ok-middle-in-Node-clause-cost
returns-in_ok-middle-in-Node-clause-cost g c =
    let whole = ap length c.in-Node.ensures.top.entries_are ∙ length-around c.in-Node.left.now.entries (c.in-Node.key.now, c.in-Node.val.now) c.in-Node.right.now.entries in
    omega (arith, whole, c.in_ok-middle-in-Node.ensures.cost)
