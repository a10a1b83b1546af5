use Rattle.std.proofs.Common.{add-one}
use Rattle.map_model.proofs.Cuts.{IsIncreasing-without}
use Rattle.leaf_blocks.proofs.plain_leaf.PlainLeafLeafMut.remove_at.Goals as goal

pub invariant_of-self : goal.invariant_of-self
invariant_of-self g c =
    rw (c.remove.ensures.items, ← add-one) (IsIncreasing-without g.K.Ord.cmp c.args.at c.self.inside.entries.items c.self.invariant)
