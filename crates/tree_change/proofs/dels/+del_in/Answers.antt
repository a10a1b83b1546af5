use Rattle.std.proofs.Common.{rules, arith}
use Rattle.tree_change.proofs.Costs.{level_changed}
use Rattle.tree_change.proofs.DelNodes.{del_left_fits, del_right_fits, del_left, del_right}
use Rattle.tree_change.proofs.Owned.{top_block, top_node, left_is_shorter, right_is_shorter, left_is_lower, right_is_lower}
use Rattle.tree_change.proofs.dels.+del_in.Goals as goal

pub del_in-requires : goal.del_in-requires
del_in-requires g t c κs within =
    let a = g.M.Augment.Augment in
    let map = c.args.part.tree.now in
    let node = c.in-Some-get_mut.node.now in
    let own = top_node g.M.Leaf.Leaf.entries g.M.Key.Ord.cmp a.base_of a.unit_of a.combined g.M.Shape.BLOCK map node c.in-Node.owner c.tree.inside.top c.in-Some-get_mut.ensures.value c.in-Node.is c.tree.invariant c.tree.view_is in
    let shorter = left_is_shorter map node own in
    search rules

pub refresh-requires-clause-fits : goal.refresh-requires-clause-fits
refresh-requires-clause-fits g t c =
    let a = g.M.Augment.Augment in
    let map = c.args.part.tree.now in
    let node = c.in-Some-get_mut.node.now in
    let own = top_node g.M.Leaf.Leaf.entries g.M.Key.Ord.cmp a.base_of a.unit_of a.combined g.M.Shape.BLOCK map node c.in-Node.owner c.tree.inside.top c.in-Some-get_mut.ensures.value c.in-Node.is c.tree.invariant c.tree.view_is in
    del_left_fits g.met.M.Key.Ord.total g.met.M.Key.Key.exact map node own c.args.key.now c.del_in.new.part.0 c.in_ok-del_in-in-Left.ensures.entries

pub invariant_of-tree-in-Left : goal.invariant_of-tree-in-Left
invariant_of-tree-in-Left g t c =
    let a = g.M.Augment.Augment in
    let map = c.args.part.tree.now in
    let node = c.in-Some-get_mut.node.now in
    let own = top_node g.M.Leaf.Leaf.entries g.M.Key.Ord.cmp a.base_of a.unit_of a.combined g.M.Shape.BLOCK map node c.in-Node.owner c.tree.inside.top c.in-Some-get_mut.ensures.value c.in-Node.is c.tree.invariant c.tree.view_is in
    let way = c.in-Left.ensures.way in
    let new = del_left g.met.M.Key.Ord.total g.met.M.Key.Key.exact map node own c.args.key.now c.del_in.new.part.0 c.refresh.new.node way c.in_ok-del_in-in-Left.ensures.entries c.refresh.ensures.node in
    new.shape

pub returns-in-Left-clause-entries : goal.returns-in-Left-clause-entries
returns-in-Left-clause-entries g t c =
    let a = g.M.Augment.Augment in
    let map = c.args.part.tree.now in
    let node = c.in-Some-get_mut.node.now in
    let own = top_node g.M.Leaf.Leaf.entries g.M.Key.Ord.cmp a.base_of a.unit_of a.combined g.M.Shape.BLOCK map node c.in-Node.owner c.tree.inside.top c.in-Some-get_mut.ensures.value c.in-Node.is c.tree.invariant c.tree.view_is in
    let way = c.in-Left.ensures.way in
    let new = del_left g.met.M.Key.Ord.total g.met.M.Key.Key.exact map node own c.args.key.now c.del_in.new.part.0 c.refresh.new.node way c.in_ok-del_in-in-Left.ensures.entries c.refresh.ensures.node in
    new.entries_are

pub returns-in-Left-clause-cost : goal.returns-in-Left-clause-cost
returns-in-Left-clause-cost g t c =
    let a = g.M.Augment.Augment in
    let map = c.args.part.tree.now in
    let node = c.in-Some-get_mut.node.now in
    let own = top_node g.M.Leaf.Leaf.entries g.M.Key.Ord.cmp a.base_of a.unit_of a.combined g.M.Shape.BLOCK map node c.in-Node.owner c.tree.inside.top c.in-Some-get_mut.ensures.value c.in-Node.is c.tree.invariant c.tree.view_is in
    let level = level_changed node.left.height map.height g.M.Shape.BLOCK (left_is_lower map node own) in
    omega (arith, level, c.in_ok-del_in-in-Left.ensures.cost, c.refresh.ensures.cost, c.in-Left.ensures.one_step)

pub del_in-requires-in-Right : goal.del_in-requires-in-Right
del_in-requires-in-Right g t c κs within =
    let a = g.M.Augment.Augment in
    let map = c.args.part.tree.now in
    let node = c.in-Some-get_mut.node.now in
    let own = top_node g.M.Leaf.Leaf.entries g.M.Key.Ord.cmp a.base_of a.unit_of a.combined g.M.Shape.BLOCK map node c.in-Node.owner c.tree.inside.top c.in-Some-get_mut.ensures.value c.in-Node.is c.tree.invariant c.tree.view_is in
    let shorter = right_is_shorter map node own in
    search rules

pub refresh-requires-in-Right-clause-fits : goal.refresh-requires-in-Right-clause-fits
refresh-requires-in-Right-clause-fits g t c =
    let a = g.M.Augment.Augment in
    let map = c.args.part.tree.now in
    let node = c.in-Some-get_mut.node.now in
    let own = top_node g.M.Leaf.Leaf.entries g.M.Key.Ord.cmp a.base_of a.unit_of a.combined g.M.Shape.BLOCK map node c.in-Node.owner c.tree.inside.top c.in-Some-get_mut.ensures.value c.in-Node.is c.tree.invariant c.tree.view_is in
    del_right_fits g.met.M.Key.Ord.total g.met.M.Key.Key.exact map node own c.args.key.now c.del_in-in-Right.new.part.0 c.in_ok-del_in-in-Right.ensures.entries

pub invariant_of-tree-in-Right : goal.invariant_of-tree-in-Right
invariant_of-tree-in-Right g t c =
    let a = g.M.Augment.Augment in
    let map = c.args.part.tree.now in
    let node = c.in-Some-get_mut.node.now in
    let own = top_node g.M.Leaf.Leaf.entries g.M.Key.Ord.cmp a.base_of a.unit_of a.combined g.M.Shape.BLOCK map node c.in-Node.owner c.tree.inside.top c.in-Some-get_mut.ensures.value c.in-Node.is c.tree.invariant c.tree.view_is in
    let way = c.in-Right.ensures.way in
    let new = del_right g.met.M.Key.Ord.total g.met.M.Key.Key.exact map node own c.args.key.now c.del_in-in-Right.new.part.0 c.refresh-in-Right.new.node way c.in_ok-del_in-in-Right.ensures.entries c.refresh-in-Right.ensures.node in
    new.shape

pub returns-in-Right-clause-entries : goal.returns-in-Right-clause-entries
returns-in-Right-clause-entries g t c =
    let a = g.M.Augment.Augment in
    let map = c.args.part.tree.now in
    let node = c.in-Some-get_mut.node.now in
    let own = top_node g.M.Leaf.Leaf.entries g.M.Key.Ord.cmp a.base_of a.unit_of a.combined g.M.Shape.BLOCK map node c.in-Node.owner c.tree.inside.top c.in-Some-get_mut.ensures.value c.in-Node.is c.tree.invariant c.tree.view_is in
    let way = c.in-Right.ensures.way in
    let new = del_right g.met.M.Key.Ord.total g.met.M.Key.Key.exact map node own c.args.key.now c.del_in-in-Right.new.part.0 c.refresh-in-Right.new.node way c.in_ok-del_in-in-Right.ensures.entries c.refresh-in-Right.ensures.node in
    new.entries_are

pub returns-in-Right-clause-cost : goal.returns-in-Right-clause-cost
returns-in-Right-clause-cost g t c =
    let a = g.M.Augment.Augment in
    let map = c.args.part.tree.now in
    let node = c.in-Some-get_mut.node.now in
    let own = top_node g.M.Leaf.Leaf.entries g.M.Key.Ord.cmp a.base_of a.unit_of a.combined g.M.Shape.BLOCK map node c.in-Node.owner c.tree.inside.top c.in-Some-get_mut.ensures.value c.in-Node.is c.tree.invariant c.tree.view_is in
    let level = level_changed node.right.height map.height g.M.Shape.BLOCK (right_is_lower map node own) in
    omega (arith, level, c.in_ok-del_in-in-Right.ensures.cost, c.refresh-in-Right.ensures.cost, c.in-Right.ensures.one_step)

pub invariant_of-tree : goal.invariant_of-tree
invariant_of-tree g t c = search rules

pub part_some-tree : goal.part_some-tree
part_some-tree g t c = search rules

pub part_none-tree : goal.part_none-tree
part_none-tree g t c = search rules

pub part_some-tree-in-Some-get_mut-2 : goal.part_some-tree-in-Some-get_mut-2
part_some-tree-in-Some-get_mut-2 g t c = search rules

pub invariant_of-tree-in-Break-branch-2 : goal.invariant_of-tree-in-Break-branch-2
invariant_of-tree-in-Break-branch-2 g t c = search rules

pub refresh-requires-clause-total : goal.refresh-requires-clause-total
refresh-requires-clause-total g t c = search rules

pub invariant_of-tree-in-Break-branch-3 : goal.invariant_of-tree-in-Break-branch-3
invariant_of-tree-in-Break-branch-3 g t c = search rules

pub refresh-requires-in-Right-clause-total : goal.refresh-requires-in-Right-clause-total
refresh-requires-in-Right-clause-total g t c = search rules

pub part_none-tree-in_default-get_mut : goal.part_none-tree-in_default-get_mut
part_none-tree-in_default-get_mut g t c = search rules

pub invariant_of-tree-2 : goal.invariant_of-tree-2
invariant_of-tree-2 g t c = search rules

pub invariant_of-tree-in-Break-branch-4 : goal.invariant_of-tree-in-Break-branch-4
invariant_of-tree-in-Break-branch-4 g t c = search rules

pub invariant_of-tree-3 : goal.invariant_of-tree-3
invariant_of-tree-3 g t c = search rules

pub invariant_of-drop : goal.invariant_of-drop
invariant_of-drop g t c = search rules

pub invariant_of-tree-in-Some : goal.invariant_of-tree-in-Some
invariant_of-tree-in-Some g t c =
    search rules

pub invariant_of-drop-2 : goal.invariant_of-drop-2
invariant_of-drop-2 g t c =
    search rules

pub del_in_own_block-requires-clause-total : goal.del_in_own_block-requires-clause-total
del_in_own_block-requires-clause-total g t c = c.requires.total

pub del_in_own_block-requires-clause-lawful : goal.del_in_own_block-requires-clause-lawful
del_in_own_block-requires-clause-lawful g t c =
    let a = g.M.Augment.Augment in
    let own = top_block g.M.Leaf.Leaf.entries g.M.Key.Ord.cmp a.base_of a.unit_of a.combined g.M.Shape.BLOCK c.args.part.tree.now c.in-Some.block.now c.in-Block.owner c.tree.inside.top c.in-Some.ensures.value c.in-Block.is c.tree.invariant c.tree.view_is in
    own.shape

pub invariant_of-tree-in-Break-1 : goal.invariant_of-tree-in-Break-1
invariant_of-tree-in-Break-1 g t c = c.del_in_own_block.ensures.lawful

pub invariant_of-tree-then-not-branch : goal.invariant_of-tree-then-not-branch
invariant_of-tree-then-not-branch g t c = c.del_in_own_block.ensures.lawful
