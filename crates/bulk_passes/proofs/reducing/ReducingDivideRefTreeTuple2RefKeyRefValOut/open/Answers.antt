use Rattle.std.proofs.Common.{◌∙◌, ap, arith, length}
use Rattle.map_model.proofs.Cuts.{length-around}
use Rattle.bulk_passes.proofs.reducing.ReducingDivideRefTreeTuple2RefKeyRefValOut.open.Goals as goal

pub returns-in-Node-clause-cost : goal.returns-in-Node-clause-cost
returns-in-Node-clause-cost g c =
    let whole = ap length c.in-Node.ensures.top.entries_are ∙ length-around c.in-Node.left.now.entries (c.in-Node.key.now, c.in-Node.val.now) c.in-Node.right.now.entries in
    omega (arith, whole)

pub returns-in_ok-all-in-Block-clause-cost : goal.returns-in_ok-all-in-Block-clause-cost
returns-in_ok-all-in-Block-clause-cost g c = omega (arith, ap length c.in-Block.ensures.top.entries_are, c.in_ok-all-in-Block.ensures.cost)
