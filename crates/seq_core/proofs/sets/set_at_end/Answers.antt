use Rattle.std.proofs.Common.{rules, ◌≡◌, length, ap, vec_len, arith}
use Rattle.seq_core.specs.Top.{contents}
use Rattle.seq_core.proofs.Changed.{set_block}
use Rattle.seq_core.proofs.Owned.{top_block}
use Rattle.seq_core.proofs.sets.set_at_end.Goals as goal
use Rattle.seq_core.proofs.sets.set_at_end.Goals.{in-Block+in_default-get_mut, in_default}

pub index_mut-requires : goal.index_mut-requires
index_mut-requires g c =
    let f = g.F.Fold in
    let own = top_block f.image_of f.unit_of f.combined g.S.BlockSize.SIZE c.args.part.tree.now c.in-Some.block.now c.in-Block.owner c.tree.inside.top c.in-Some.ensures.value c.in-Block.is c.tree.invariant c.tree.view_is in
    let len : vec_len c.in-Some.block.now.items ≡ length c.in-Some.block.now.items.items = grind arith in
    omega (arith, len, ap length own.items_are, c.requires)

pub invariant_of-tree : goal.invariant_of-tree
invariant_of-tree g c =
    let f = g.F.Fold in
    let own = top_block f.image_of f.unit_of f.combined g.S.BlockSize.SIZE c.args.part.tree.now c.in-Some.block.now c.in-Block.owner c.tree.inside.top c.in-Some.ensures.value c.in-Block.is c.tree.invariant c.tree.view_is in
    let sum = rw c.deref.ensures.value at c.sum_uncounted.ensures in
    rw sum (set_block f.image_of f.unit_of f.combined g.S.BlockSize.SIZE c.in-Some.block.now.items.items c.in-Some.block.now.sum c.args.place c.args.item own.shape)

pub set_at-requires : goal.set_at-requires
set_at-requires g c =
    let same : (contents c.match-tree.tree-inside.top).items ≡ c.args.part.tree.now.items = elim c.match-tree.branch [
      | in-Block+in_default-get_mut w ↦ search rules
      | in_default w ↦ search rules
    ] in
    omega (arith, ap length same, c.requires)

pub part_some-tree : goal.part_some-tree
part_some-tree g c = search rules

pub part_none-tree : goal.part_none-tree
part_none-tree g c = search rules

pub invariant_of-tree-2 : goal.invariant_of-tree-2
invariant_of-tree-2 g c = search rules

pub invariant_of-tree-in-Break-1 : goal.invariant_of-tree-in-Break-1
invariant_of-tree-in-Break-1 g c = search rules

pub invariant_of-tree-3 : goal.invariant_of-tree-3
invariant_of-tree-3 g c = search rules

pub invariant_of-drop : goal.invariant_of-drop
invariant_of-drop g c = search rules
