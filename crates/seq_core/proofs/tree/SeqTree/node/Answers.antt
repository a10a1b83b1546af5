use Rattle.std.proofs.Common.{length, refl, sym, ◌∙◌, arith}
use Rattle.map_model.proofs.Heights.{height_small}
use Rattle.seq_core.proofs.Sums.{sum-around}
use Rattle.seq_core.proofs.Nodes.{is_node}
use Rattle.seq_core.proofs.tree.SeqTree.node.Goals as goal

pub overflow_add-height : goal.overflow_add-height
overflow_add-height g c =
    let block = g.S.BlockSize.SIZE in
    let left = height_small block c.args.left.height (length c.args.left.items) c.requires.block_size.0 (omega (arith, c.size-before.ensures.value, c.size-before.ensures.fits)) c.height.ensures.law in
    let right = height_small block c.args.right.height (length c.args.right.items) c.requires.block_size.0 (omega (arith, c.size.ensures.value, c.size.ensures.fits)) c.height-2.ensures.law in
    omega (arith, left, right, c.max-height.ensures, c.height.ensures.value, c.height-2.ensures.value)

pub invariant_of-result : goal.invariant_of-result
invariant_of-result g c =
    let f = g.F.Fold in
    let law = g.met.F.Fold in
    let around = sum-around law.monoid law.image_fits c.args.left.items c.args.item c.args.right.items in
    let sum = rw (c.sum.ensures, c.sum-2.ensures) at c.sum_around-sum.ensures in
    rw c.in_ok-node.ensures
    (is_node f.image_of f.unit_of f.combined g.S.BlockSize.SIZE _ c.args.left c.args.item c.args.right _ _ _
    c.requires.block_size c.size-before.ensures.value (sum ∙ sym around)
    (omega (arith, c.size-before.ensures.value, c.size.ensures.value)) (omega (arith, c.if-size-ge-MOST_ITEMS.false)) (rw (c.max-height.ensures, c.height.ensures.value, c.height-2.ensures.value) refl)
    c.requires.balanced c.requires.filled c.height.ensures.law c.height-2.ensures.law)
