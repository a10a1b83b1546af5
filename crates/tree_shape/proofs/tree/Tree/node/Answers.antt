use Rattle.std.proofs.Common.{refl}
use Rattle.tree_shape.proofs.Nodes.{is_node}
use Rattle.tree_shape.proofs.tree.Tree.node.Goals as goal

pub invariant_of-result : goal.invariant_of-result
invariant_of-result g c =
    let a = g.M.Augment.Augment in
    let new = c.in_ok-fold.ensures in
    rw c.in_ok-node.ensures
    (is_node g.M.Key.Ord.cmp a.base_of a.unit_of a.combined g.M.Shape.BLOCK c.args.left c.args.key c.args.val c.args.right _ _ _
    g.M.Shape.lawful c.requires.increasing new.fold new.size new.fits new.height
    c.requires.balanced c.requires.filled new.left_law new.right_law)

pub returns-clause-entries : goal.returns-clause-entries
returns-clause-entries g c = rw c.in_ok-node.ensures refl
