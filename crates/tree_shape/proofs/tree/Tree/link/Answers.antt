use Rattle.std.proofs.Common.{refl, arith}
use Rattle.std.proofs.lemmas.Bool.{false≢true}
use Rattle.map_model.proofs.Heights.{few_entries, node_is_balanced}
use Rattle.tree_shape.proofs.Nodes.{length-around}
use Rattle.tree_shape.proofs.tree.Tree.link.Goals as goal

pub node_over_shared-requires-clause-balanced : goal.node_over_shared-requires-clause-balanced
node_over_shared-requires-clause-balanced g c = node_is_balanced _ _ _ (c.if-fill_node.ensures.value.0 refl) c.requires.balanced

pub node_over_shared-requires-clause-filled : goal.node_over_shared-requires-clause-filled
node_over_shared-requires-clause-filled g c = c.if-fill_node.ensures.value.0 refl

pub leaf_of_all-requires-clause-small : goal.leaf_of_all-requires-clause-small
leaf_of_all-requires-clause-small g c = few_entries _ _ _ (λ filled. false≢true (c.if-fill_node.ensures.value.1 filled))

pub from_leaf-requires-clause-small : goal.from_leaf-requires-clause-small
from_leaf-requires-clause-small g c =
    let few = few_entries _ _ _ (λ filled. false≢true (c.if-fill_node.ensures.value.1 filled)) in
    rw (c.in_ok-leaf.ensures, length-around c.args.left.now.entries (c.args.key, c.args.val) c.args.right.now.entries) few

pub returns-in_ok-leaf-clause-cost : goal.returns-in_ok-leaf-clause-cost
returns-in_ok-leaf-clause-cost g c =
    let few = few_entries _ _ _ (λ filled. false≢true (c.if-fill_node.ensures.value.1 filled)) in
    let cost = rw (c.in_ok-leaf.ensures, length-around c.args.left.now.entries (c.args.key, c.args.val) c.args.right.now.entries) at c.from_leaf.ensures.cost in
    omega (arith, cost, few)
