use Rattle.std.proofs.Common.{◌≡◌, ◌+◌, max, length, arith}
use Rattle.map_model.proofs.Heights.{height_small, node_law}
use Rattle.tree_change.proofs.nodes.height_over.Goals as goal

pub overflow_add-result : goal.overflow_add-result
overflow_add-result g c =
    let block = g.M.Shape.BLOCK in
    let node = c.args.node.now in
    let left = height_small block node.left.height (length node.left.entries) g.M.Shape.lawful.0 (omega (arith, c.requires.fits)) c.height.ensures.law in
    let right = height_small block node.right.height (length node.right.entries) g.M.Shape.lawful.0 (omega (arith, c.requires.fits)) c.height-2.ensures.law in
    omega (arith, left, right, c.max.ensures, c.height.ensures.value, c.height-2.ensures.value)

pub returns-clause-law : goal.returns-clause-law
returns-clause-law g c balanced filled =
    let node = c.args.node.now in
    let height_is : c.max.result + 1 ≡ max node.left.height node.right.height + 1 = omega (arith, c.max.ensures, c.height.ensures.value, c.height-2.ensures.value) in
    rw height_is (node_law g.M.Shape.BLOCK (length node.left.entries) (length node.right.entries) node.left.height node.right.height g.M.Shape.lawful.0 c.height.ensures.law c.height-2.ensures.law balanced filled)
