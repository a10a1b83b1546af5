use Rattle.std.proofs.Common.{◌≡◌, ◌+◌, max, length, arith}
use Rattle.map_model.proofs.Heights.{height_small, node_law}
use Rattle.seq_core.proofs.changes.height_over.Goals as goal

pub overflow_add-result : goal.overflow_add-result
overflow_add-result g c =
    let block = g.S.BlockSize.SIZE in
    let node = c.args.node.now in
    let left = height_small block node.left.height (length node.left.items) c.requires.block_size.0 (omega (arith, c.requires.fits)) c.height.ensures.law in
    let right = height_small block node.right.height (length node.right.items) c.requires.block_size.0 (omega (arith, c.requires.fits)) c.height-2.ensures.law in
    omega (arith, left, right, c.max.ensures, c.height.ensures.value, c.height-2.ensures.value)

pub returns-clause-law : goal.returns-clause-law
returns-clause-law g c balanced filled =
    let node = c.args.node.now in
    let height_is : c.max.result + 1 ≡ max node.left.height node.right.height + 1 = omega (arith, c.max.ensures, c.height.ensures.value, c.height-2.ensures.value) in
    rw height_is (node_law g.S.BlockSize.SIZE (length node.left.items) (length node.right.items) node.left.height node.right.height c.requires.block_size.0 c.height.ensures.law c.height-2.ensures.law balanced filled)
