use Rattle.std.proofs.Common.{rules, ◌*◌, ◌<◌, length, arith}
use Rattle.seq_core.proofs.Changed.{pushed_block}
use Rattle.seq_core.proofs.Owned.{top_block}
use Rattle.seq_core.proofs.pushes.push_at_end.Goals as goal

pub overflow_mul-SIZE : goal.overflow_mul-SIZE
overflow_mul-SIZE g c =
    let f = g.F.Fold in
    let own = top_block f.image_of f.unit_of f.combined g.S.BlockSize.SIZE c.args.part.tree.now c.in-Some.block.now c.in-Block.owner c.tree.inside.top c.in-Some.ensures.value c.in-Block.is c.tree.invariant c.tree.view_is in
    omega (arith, own.shape.block_size.1, c.SIZE.ensures)

pub invariant_of-tree : goal.invariant_of-tree
invariant_of-tree g c =
    let f = g.F.Fold in
    let own = top_block f.image_of f.unit_of f.combined g.S.BlockSize.SIZE c.args.part.tree.now c.in-Some.block.now c.in-Block.owner c.tree.inside.top c.in-Some.ensures.value c.in-Block.is c.tree.invariant c.tree.view_is in
    rw c.in_err-push.ensures.items own.shape

pub invariant_of-tree-then-len-SIZE : goal.invariant_of-tree-then-len-SIZE
invariant_of-tree-then-len-SIZE g c =
    let f = g.F.Fold in
    let law = g.met.F.Fold in
    let own = top_block f.image_of f.unit_of f.combined g.S.BlockSize.SIZE c.args.part.tree.now c.in-Some.block.now c.in-Block.owner c.tree.inside.top c.in-Some.ensures.value c.in-Block.is c.tree.invariant c.tree.view_is in
    let room : length c.in-Some.block.now.items.items < 2 * g.S.BlockSize.SIZE = omega (arith, c.if-len-SIZE.true, c.len.ensures, c.SIZE.ensures) in
    let sum = rw c.requires at c.sum_both.ensures in
    rw (c.in_ok-push.ensures.items, sum) (pushed_block law.monoid law.image_fits c.in-Some.block.now.items.items c.in-Some.block.now.sum c.args.item own.shape room)

pub part_some-tree : goal.part_some-tree
part_some-tree g c = search rules

pub part_none-tree : goal.part_none-tree
part_none-tree g c = search rules

pub invariant_of-tree-2 : goal.invariant_of-tree-2
invariant_of-tree-2 g c = search rules

pub invariant_of-tree-in-Break-branch-2 : goal.invariant_of-tree-in-Break-branch-2
invariant_of-tree-in-Break-branch-2 g c = search rules

pub invariant_of-tree-3 : goal.invariant_of-tree-3
invariant_of-tree-3 g c = search rules

pub invariant_of-drop : goal.invariant_of-drop
invariant_of-drop g c = search rules
