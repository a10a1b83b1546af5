use Rattle.std.proofs.Common.{rules, Some, ◌≡◌, ◌+◌, ◌*◌, ◌<◌, ◌≤◌, length, sym, ap, ◌∙◌, subst, arith}
use Rattle.map_model.proofs.Cuts.{length-around}
use Rattle.map_model.specs.Entries.{lookup}
use Rattle.map_model.proofs.Lookups.{lookup_left, lookup_middle, lookup_right}
use Rattle.tree_shape.specs.Top.{contents}
use Rattle.tree_change.specs.Looks.{look_cost}
use Rattle.tree_change.proofs.Costs.{level_changed, copied_cost}
use Rattle.tree_change.proofs.HandedOut.{look_in_side}
use Rattle.tree_change.proofs.Owned.{top_node, left_is_shorter, right_is_shorter, left_is_lower, right_is_lower, sides_fit, law_of_one_more}
use Rattle.tree_change.proofs.PutNodes.{put_left_fits, put_right_fits, put_left_fold, put_right_fold, put_left_longer, put_right_longer, put_left_size, put_right_size, put_left, put_right, put_here}
use Rattle.tree_change.proofs.puts.+put_in.Goals as goal
use Rattle.tree_change.proofs.puts.+put_in.Goals.{in_default, in-Node+in-Some+in-Copy, in-Node+in_default-get_mut}

pub put_in-requires : goal.put_in-requires
put_in-requires g t c κs within =
    let a = g.M.Augment.Augment in
    let map = c.args.part.tree.now in
    let node = c.in-Some.node.now in
    let own = top_node g.M.Leaf.Leaf.entries g.M.Key.Ord.cmp a.base_of a.unit_of a.combined g.M.Shape.BLOCK map node c.in-Node.owner c.tree.inside.top c.in-Some.ensures.value c.in-Node.is c.tree.invariant c.tree.view_is in
    let shorter = left_is_shorter map node own in
    search rules

pub refresh_after_put-requires-clause-fits : goal.refresh_after_put-requires-clause-fits
refresh_after_put-requires-clause-fits g t c =
    let a = g.M.Augment.Augment in
    let map = c.args.part.tree.now in
    let node = c.in-Some.node.now in
    let own = top_node g.M.Leaf.Leaf.entries g.M.Key.Ord.cmp a.base_of a.unit_of a.combined g.M.Shape.BLOCK map node c.in-Node.owner c.tree.inside.top c.in-Some.ensures.value c.in-Node.is c.tree.invariant c.tree.view_is in
    let way = c.in-Left.ensures.way in
    put_left_fits g.met.M.Key.Ord.total g.met.M.Key.Key.exact map node own c.args.key c.args.val c.put_in.new.part.0 c.in_ok-growth-in-Left.ensures.entries way.1

pub invariant_of-tree-in-Left : goal.invariant_of-tree-in-Left
invariant_of-tree-in-Left g t c =
    let a = g.M.Augment.Augment in
    let map = c.args.part.tree.now in
    let node = c.in-Some.node.now in
    let own = top_node g.M.Leaf.Leaf.entries g.M.Key.Ord.cmp a.base_of a.unit_of a.combined g.M.Shape.BLOCK map node c.in-Node.owner c.tree.inside.top c.in-Some.ensures.value c.in-Node.is c.tree.invariant c.tree.view_is in
    let way = c.in-Left.ensures.way in
    let new = put_left g.met.M.Key.Ord.total g.met.M.Key.Key.exact map node own c.args.key c.args.val c.put_in.new.part.0 c.refresh_after_put.new.node way c.in_ok-growth-in-Left.ensures.entries c.refresh_after_put.ensures.node in
    new.shape

pub returns-in-Left-clause-entries : goal.returns-in-Left-clause-entries
returns-in-Left-clause-entries g t c =
    let a = g.M.Augment.Augment in
    let map = c.args.part.tree.now in
    let node = c.in-Some.node.now in
    let own = top_node g.M.Leaf.Leaf.entries g.M.Key.Ord.cmp a.base_of a.unit_of a.combined g.M.Shape.BLOCK map node c.in-Node.owner c.tree.inside.top c.in-Some.ensures.value c.in-Node.is c.tree.invariant c.tree.view_is in
    let way = c.in-Left.ensures.way in
    let new = put_left g.met.M.Key.Ord.total g.met.M.Key.Key.exact map node own c.args.key c.args.val c.put_in.new.part.0 c.refresh_after_put.new.node way c.in_ok-growth-in-Left.ensures.entries c.refresh_after_put.ensures.node in
    new.entries_are

pub returns-in-Left-clause-cost : goal.returns-in-Left-clause-cost
returns-in-Left-clause-cost g t c =
    let a = g.M.Augment.Augment in
    let map = c.args.part.tree.now in
    let node = c.in-Some.node.now in
    let own = top_node g.M.Leaf.Leaf.entries g.M.Key.Ord.cmp a.base_of a.unit_of a.combined g.M.Shape.BLOCK map node c.in-Node.owner c.tree.inside.top c.in-Some.ensures.value c.in-Node.is c.tree.invariant c.tree.view_is in
    let level = level_changed node.left.height map.height g.M.Shape.BLOCK (left_is_lower map node own) in
    let look = look_in_side c.args.replaced.now.is_wanted node.left.height map.height g.M.Leaf.Leaf.FIND (left_is_lower map node own) in
    omega (arith, level, look, c.in_ok-growth-in-Left.ensures.cost, c.refresh_after_put.ensures.cost, c.in-Left.ensures.one_step)

pub put_in-requires-in-Right : goal.put_in-requires-in-Right
put_in-requires-in-Right g t c κs within =
    let a = g.M.Augment.Augment in
    let map = c.args.part.tree.now in
    let node = c.in-Some.node.now in
    let own = top_node g.M.Leaf.Leaf.entries g.M.Key.Ord.cmp a.base_of a.unit_of a.combined g.M.Shape.BLOCK map node c.in-Node.owner c.tree.inside.top c.in-Some.ensures.value c.in-Node.is c.tree.invariant c.tree.view_is in
    let shorter = right_is_shorter map node own in
    search rules

pub refresh_after_put-requires-in-Right-clause-fits : goal.refresh_after_put-requires-in-Right-clause-fits
refresh_after_put-requires-in-Right-clause-fits g t c =
    let a = g.M.Augment.Augment in
    let map = c.args.part.tree.now in
    let node = c.in-Some.node.now in
    let own = top_node g.M.Leaf.Leaf.entries g.M.Key.Ord.cmp a.base_of a.unit_of a.combined g.M.Shape.BLOCK map node c.in-Node.owner c.tree.inside.top c.in-Some.ensures.value c.in-Node.is c.tree.invariant c.tree.view_is in
    let way = c.in-Right.ensures.way in
    put_right_fits g.met.M.Key.Ord.total g.met.M.Key.Key.exact map node own c.args.key c.args.val c.put_in-in-Right.new.part.0 c.in_ok-growth-in-Right.ensures.entries way.1

pub invariant_of-tree-in-Right : goal.invariant_of-tree-in-Right
invariant_of-tree-in-Right g t c =
    let a = g.M.Augment.Augment in
    let map = c.args.part.tree.now in
    let node = c.in-Some.node.now in
    let own = top_node g.M.Leaf.Leaf.entries g.M.Key.Ord.cmp a.base_of a.unit_of a.combined g.M.Shape.BLOCK map node c.in-Node.owner c.tree.inside.top c.in-Some.ensures.value c.in-Node.is c.tree.invariant c.tree.view_is in
    let way = c.in-Right.ensures.way in
    let new = put_right g.met.M.Key.Ord.total g.met.M.Key.Key.exact map node own c.args.key c.args.val c.put_in-in-Right.new.part.0 c.refresh_after_put-in-Right.new.node way c.in_ok-growth-in-Right.ensures.entries c.refresh_after_put-in-Right.ensures.node in
    new.shape

pub returns-in-Right-clause-entries : goal.returns-in-Right-clause-entries
returns-in-Right-clause-entries g t c =
    let a = g.M.Augment.Augment in
    let map = c.args.part.tree.now in
    let node = c.in-Some.node.now in
    let own = top_node g.M.Leaf.Leaf.entries g.M.Key.Ord.cmp a.base_of a.unit_of a.combined g.M.Shape.BLOCK map node c.in-Node.owner c.tree.inside.top c.in-Some.ensures.value c.in-Node.is c.tree.invariant c.tree.view_is in
    let way = c.in-Right.ensures.way in
    let new = put_right g.met.M.Key.Ord.total g.met.M.Key.Key.exact map node own c.args.key c.args.val c.put_in-in-Right.new.part.0 c.refresh_after_put-in-Right.new.node way c.in_ok-growth-in-Right.ensures.entries c.refresh_after_put-in-Right.ensures.node in
    new.entries_are

pub returns-in-Right-clause-cost : goal.returns-in-Right-clause-cost
returns-in-Right-clause-cost g t c =
    let a = g.M.Augment.Augment in
    let map = c.args.part.tree.now in
    let node = c.in-Some.node.now in
    let own = top_node g.M.Leaf.Leaf.entries g.M.Key.Ord.cmp a.base_of a.unit_of a.combined g.M.Shape.BLOCK map node c.in-Node.owner c.tree.inside.top c.in-Some.ensures.value c.in-Node.is c.tree.invariant c.tree.view_is in
    let level = level_changed node.right.height map.height g.M.Shape.BLOCK (right_is_lower map node own) in
    let look = look_in_side c.args.replaced.now.is_wanted node.right.height map.height g.M.Leaf.Leaf.FIND (right_is_lower map node own) in
    omega (arith, level, look, c.in_ok-growth-in-Right.ensures.cost, c.refresh_after_put-in-Right.ensures.cost, c.in-Right.ensures.one_step)

pub put_here-requires-clause-fits : goal.put_here-requires-clause-fits
put_here-requires-clause-fits g t c =
    let a = g.M.Augment.Augment in
    let map = c.args.part.tree.now in
    let node = c.in-Some.node.now in
    let own = top_node g.M.Leaf.Leaf.entries g.M.Key.Ord.cmp a.base_of a.unit_of a.combined g.M.Shape.BLOCK map node c.in-Node.owner c.tree.inside.top c.in-Some.ensures.value c.in-Node.is c.tree.invariant c.tree.view_is in
    sides_fit map node own

pub invariant_of-tree-in-Here : goal.invariant_of-tree-in-Here
invariant_of-tree-in-Here g t c =
    let a = g.M.Augment.Augment in
    let map = c.args.part.tree.now in
    let node = c.in-Some.node.now in
    let own = top_node g.M.Leaf.Leaf.entries g.M.Key.Ord.cmp a.base_of a.unit_of a.combined g.M.Shape.BLOCK map node c.in-Node.owner c.tree.inside.top c.in-Some.ensures.value c.in-Node.is c.tree.invariant c.tree.view_is in
    let new = put_here g.met.M.Key.Ord.total g.met.M.Key.Key.exact map node own c.args.key c.args.val c.put_here.new.node c.in-Here.ensures.way c.put_here.ensures.node in
    new.shape

pub returns-in-Here-clause-entries : goal.returns-in-Here-clause-entries
returns-in-Here-clause-entries g t c =
    let a = g.M.Augment.Augment in
    let map = c.args.part.tree.now in
    let node = c.in-Some.node.now in
    let own = top_node g.M.Leaf.Leaf.entries g.M.Key.Ord.cmp a.base_of a.unit_of a.combined g.M.Shape.BLOCK map node c.in-Node.owner c.tree.inside.top c.in-Some.ensures.value c.in-Node.is c.tree.invariant c.tree.view_is in
    let new = put_here g.met.M.Key.Ord.total g.met.M.Key.Key.exact map node own c.args.key c.args.val c.put_here.new.node c.in-Here.ensures.way c.put_here.ensures.node in
    new.entries_are

pub invariant_of-tree-in-Break-branch-2 : goal.invariant_of-tree-in-Break-branch-2
invariant_of-tree-in-Break-branch-2 g t c = search rules

pub refresh_after_put-requires-clause-total : goal.refresh_after_put-requires-clause-total
refresh_after_put-requires-clause-total g t c = search rules

pub put_here-requires-clause-total : goal.put_here-requires-clause-total
put_here-requires-clause-total g t c = search rules

pub refresh_after_put-requires-in-Right-clause-total : goal.refresh_after_put-requires-in-Right-clause-total
refresh_after_put-requires-in-Right-clause-total g t c = search rules

pub refresh_after_put-requires-clause-fold : goal.refresh_after_put-requires-clause-fold
refresh_after_put-requires-clause-fold g t c = λ grew alike.
    let a = g.M.Augment.Augment in
    let map = c.args.part.tree.now in
    let node = c.in-Some.node.now in
    let own = top_node g.M.Leaf.Leaf.entries g.M.Key.Ord.cmp a.base_of a.unit_of a.combined g.M.Shape.BLOCK map node c.in-Node.owner c.tree.inside.top c.in-Some.ensures.value c.in-Node.is c.tree.invariant c.tree.view_is in
    let law = g.met.M.Augment.Augment in
    let more : length node.left.entries < length c.put_in.new.part.0.entries = c.in_ok-growth-in-Left.ensures.larger grew in
    rw c.requires.base (sym (put_left_fold g.met.M.Key.Ord.total g.met.M.Key.Key.exact map node own c.args.key c.args.val law.monoid law.base_fits alike c.put_in.new.part.0 c.in_ok-growth-in-Left.ensures.entries c.in-Left.ensures.way.0 more))

pub refresh_after_put-requires-clause-size : goal.refresh_after_put-requires-clause-size
refresh_after_put-requires-clause-size g t c = λ grew.
    let a = g.M.Augment.Augment in
    let map = c.args.part.tree.now in
    let node = c.in-Some.node.now in
    let own = top_node g.M.Leaf.Leaf.entries g.M.Key.Ord.cmp a.base_of a.unit_of a.combined g.M.Shape.BLOCK map node c.in-Node.owner c.tree.inside.top c.in-Some.ensures.value c.in-Node.is c.tree.invariant c.tree.view_is in
    let more : length node.left.entries < length c.put_in.new.part.0.entries = c.in_ok-growth-in-Left.ensures.larger grew in
    put_left_size g.met.M.Key.Ord.total g.met.M.Key.Key.exact map node own c.args.key c.args.val c.put_in.new.part.0 c.in_ok-growth-in-Left.ensures.entries more

pub refresh_after_put-requires-clause-height : goal.refresh_after_put-requires-clause-height
refresh_after_put-requires-clause-height g t c = λ same.
    let a = g.M.Augment.Augment in
    let map = c.args.part.tree.now in
    let node = c.in-Some.node.now in
    let own = top_node g.M.Leaf.Leaf.entries g.M.Key.Ord.cmp a.base_of a.unit_of a.combined g.M.Shape.BLOCK map node c.in-Node.owner c.tree.inside.top c.in-Some.ensures.value c.in-Node.is c.tree.invariant c.tree.view_is in
    omega (arith, c.in_ok-growth-in-Left.ensures.as_high same, own.shape.height_is)

pub refresh_after_put-requires-in-Right-clause-fold : goal.refresh_after_put-requires-in-Right-clause-fold
refresh_after_put-requires-in-Right-clause-fold g t c = λ grew alike.
    let a = g.M.Augment.Augment in
    let map = c.args.part.tree.now in
    let node = c.in-Some.node.now in
    let own = top_node g.M.Leaf.Leaf.entries g.M.Key.Ord.cmp a.base_of a.unit_of a.combined g.M.Shape.BLOCK map node c.in-Node.owner c.tree.inside.top c.in-Some.ensures.value c.in-Node.is c.tree.invariant c.tree.view_is in
    let law = g.met.M.Augment.Augment in
    let more : length node.right.entries < length c.put_in-in-Right.new.part.0.entries = c.in_ok-growth-in-Right.ensures.larger grew in
    rw c.requires.base (sym (put_right_fold g.met.M.Key.Ord.total g.met.M.Key.Key.exact map node own c.args.key c.args.val law.monoid law.base_fits alike c.put_in-in-Right.new.part.0 c.in_ok-growth-in-Right.ensures.entries c.in-Right.ensures.way.0 more))

pub refresh_after_put-requires-in-Right-clause-size : goal.refresh_after_put-requires-in-Right-clause-size
refresh_after_put-requires-in-Right-clause-size g t c = λ grew.
    let a = g.M.Augment.Augment in
    let map = c.args.part.tree.now in
    let node = c.in-Some.node.now in
    let own = top_node g.M.Leaf.Leaf.entries g.M.Key.Ord.cmp a.base_of a.unit_of a.combined g.M.Shape.BLOCK map node c.in-Node.owner c.tree.inside.top c.in-Some.ensures.value c.in-Node.is c.tree.invariant c.tree.view_is in
    let more : length node.right.entries < length c.put_in-in-Right.new.part.0.entries = c.in_ok-growth-in-Right.ensures.larger grew in
    put_right_size g.met.M.Key.Ord.total g.met.M.Key.Key.exact map node own c.args.key c.args.val c.put_in-in-Right.new.part.0 c.in_ok-growth-in-Right.ensures.entries more

pub refresh_after_put-requires-in-Right-clause-height : goal.refresh_after_put-requires-in-Right-clause-height
refresh_after_put-requires-in-Right-clause-height g t c = λ same.
    let a = g.M.Augment.Augment in
    let map = c.args.part.tree.now in
    let node = c.in-Some.node.now in
    let own = top_node g.M.Leaf.Leaf.entries g.M.Key.Ord.cmp a.base_of a.unit_of a.combined g.M.Shape.BLOCK map node c.in-Node.owner c.tree.inside.top c.in-Some.ensures.value c.in-Node.is c.tree.invariant c.tree.view_is in
    omega (arith, c.in_ok-growth-in-Right.ensures.as_high same, own.shape.height_is)

pub way_of_put-requires-clause-size : goal.way_of_put-requires-clause-size
way_of_put-requires-clause-size g t c =
    let a = g.M.Augment.Augment in
    let map = c.args.part.tree.now in
    let node = c.in-Some.node.now in
    let own = top_node g.M.Leaf.Leaf.entries g.M.Key.Ord.cmp a.base_of a.unit_of a.combined g.M.Shape.BLOCK map node c.in-Node.owner c.tree.inside.top c.in-Some.ensures.value c.in-Node.is c.tree.invariant c.tree.view_is in
    own.shape.size_is ∙ length-around node.left.entries (node.key, node.val) node.right.entries

pub way_of_put-requires-clause-fits : goal.way_of_put-requires-clause-fits
way_of_put-requires-clause-fits g t c =
    let a = g.M.Augment.Augment in
    let map = c.args.part.tree.now in
    let node = c.in-Some.node.now in
    let own = top_node g.M.Leaf.Leaf.entries g.M.Key.Ord.cmp a.base_of a.unit_of a.combined g.M.Shape.BLOCK map node c.in-Node.owner c.tree.inside.top c.in-Some.ensures.value c.in-Node.is c.tree.invariant c.tree.view_is in
    own.shape.size_fits

pub refresh_after_put-requires-clause-law : goal.refresh_after_put-requires-clause-law
refresh_after_put-requires-clause-law g t c =
    let a = g.M.Augment.Augment in
    let map = c.args.part.tree.now in
    let node = c.in-Some.node.now in
    let own = top_node g.M.Leaf.Leaf.entries g.M.Key.Ord.cmp a.base_of a.unit_of a.combined g.M.Shape.BLOCK map node c.in-Node.owner c.tree.inside.top c.in-Some.ensures.value c.in-Node.is c.tree.invariant c.tree.view_is in
    law_of_one_more map node own

pub refresh_after_put-requires-in-Right-clause-law : goal.refresh_after_put-requires-in-Right-clause-law
refresh_after_put-requires-in-Right-clause-law g t c =
    let a = g.M.Augment.Augment in
    let map = c.args.part.tree.now in
    let node = c.in-Some.node.now in
    let own = top_node g.M.Leaf.Leaf.entries g.M.Key.Ord.cmp a.base_of a.unit_of a.combined g.M.Shape.BLOCK map node c.in-Node.owner c.tree.inside.top c.in-Some.ensures.value c.in-Node.is c.tree.invariant c.tree.view_is in
    law_of_one_more map node own

pub returns-in-Left-clause-larger : goal.returns-in-Left-clause-larger
returns-in-Left-clause-larger g t c = λ grew.
    let a = g.M.Augment.Augment in
    let map = c.args.part.tree.now in
    let node = c.in-Some.node.now in
    let own = top_node g.M.Leaf.Leaf.entries g.M.Key.Ord.cmp a.base_of a.unit_of a.combined g.M.Shape.BLOCK map node c.in-Node.owner c.tree.inside.top c.in-Some.ensures.value c.in-Node.is c.tree.invariant c.tree.view_is in
    let way = c.in-Left.ensures.way in
    let put = c.in_ok-growth-in-Left.ensures.entries in
    let new = put_left g.met.M.Key.Ord.total g.met.M.Key.Key.exact map node own c.args.key c.args.val c.put_in.new.part.0 c.refresh_after_put.new.node way put c.refresh_after_put.ensures.node in
    let more = c.in_ok-growth-in-Left.ensures.larger (c.refresh_after_put.ensures.larger grew) in
    subst (λ es. length map.entries < length es) (sym new.entries_are) (put_left_longer g.met.M.Key.Ord.total g.met.M.Key.Key.exact map node own c.args.key c.args.val c.put_in.new.part.0 put way.0 more)

pub returns-in-Left-clause-as_high : goal.returns-in-Left-clause-as_high
returns-in-Left-clause-as_high g t c = λ same.
    let a = g.M.Augment.Augment in
    let map = c.args.part.tree.now in
    let node = c.in-Some.node.now in
    let own = top_node g.M.Leaf.Leaf.entries g.M.Key.Ord.cmp a.base_of a.unit_of a.combined g.M.Shape.BLOCK map node c.in-Node.owner c.tree.inside.top c.in-Some.ensures.value c.in-Node.is c.tree.invariant c.tree.view_is in
    c.refresh_after_put.ensures.as_high same ∙ own.height_is

pub returns-in-Right-clause-larger : goal.returns-in-Right-clause-larger
returns-in-Right-clause-larger g t c = λ grew.
    let a = g.M.Augment.Augment in
    let map = c.args.part.tree.now in
    let node = c.in-Some.node.now in
    let own = top_node g.M.Leaf.Leaf.entries g.M.Key.Ord.cmp a.base_of a.unit_of a.combined g.M.Shape.BLOCK map node c.in-Node.owner c.tree.inside.top c.in-Some.ensures.value c.in-Node.is c.tree.invariant c.tree.view_is in
    let way = c.in-Right.ensures.way in
    let put = c.in_ok-growth-in-Right.ensures.entries in
    let new = put_right g.met.M.Key.Ord.total g.met.M.Key.Key.exact map node own c.args.key c.args.val c.put_in-in-Right.new.part.0 c.refresh_after_put-in-Right.new.node way put c.refresh_after_put-in-Right.ensures.node in
    let more = c.in_ok-growth-in-Right.ensures.larger (c.refresh_after_put-in-Right.ensures.larger grew) in
    subst (λ es. length map.entries < length es) (sym new.entries_are) (put_right_longer g.met.M.Key.Ord.total g.met.M.Key.Key.exact map node own c.args.key c.args.val c.put_in-in-Right.new.part.0 put way.0 more)

pub returns-in-Right-clause-as_high : goal.returns-in-Right-clause-as_high
returns-in-Right-clause-as_high g t c = λ same.
    let a = g.M.Augment.Augment in
    let map = c.args.part.tree.now in
    let node = c.in-Some.node.now in
    let own = top_node g.M.Leaf.Leaf.entries g.M.Key.Ord.cmp a.base_of a.unit_of a.combined g.M.Shape.BLOCK map node c.in-Node.owner c.tree.inside.top c.in-Some.ensures.value c.in-Node.is c.tree.invariant c.tree.view_is in
    c.refresh_after_put-in-Right.ensures.as_high same ∙ own.height_is

pub part_some-tree : goal.part_some-tree
part_some-tree g t c = search rules

pub invariant_of-tree : goal.invariant_of-tree
invariant_of-tree g t c = search rules

pub part_none-tree : goal.part_none-tree
part_none-tree g t c = search rules

pub invariant_of-tree-2 : goal.invariant_of-tree-2
invariant_of-tree-2 g t c = search rules

pub put_at_end-requires-clause-total : goal.put_at_end-requires-clause-total
put_at_end-requires-clause-total g t c = search rules

pub put_at_end-requires-clause-base : goal.put_at_end-requires-clause-base
put_at_end-requires-clause-base g t c = search rules

pub returns-clause-cost : goal.returns-clause-cost
returns-clause-cost g t c =
    let look : c.match-tree.steps ≤ c.args.steps.now + 1 = elim c.match-tree.branch [
      | in_default w ↦ omega (arith, w.steps-is)
      | in-Node+in-Some+in-Copy w ↦ omega (arith, w.steps-is, w.way_of_put.ensures.one_step)
      | in-Node+in_default-get_mut w ↦ omega (arith, w.steps-is)
    ] in
    let same : (contents g.M.Leaf.Leaf.entries c.match-tree.tree-inside.top).height ≡ c.args.part.tree.now.height = elim c.match-tree.branch [
      | in_default w ↦ search rules
      | in-Node+in-Some+in-Copy w ↦ search rules
      | in-Node+in_default-get_mut w ↦ search rules
    ] in
    copied_cost c.args.part.tree.now.height g.M.Shape.BLOCK (g.M.Leaf.Leaf.FIND + look_cost c.args.replaced.now.is_wanted c.args.part.tree.now.height g.M.Leaf.Leaf.FIND) c.args.steps.now c.match-tree.steps c.put_at_end.new.steps look
    (subst (λ h. c.put_at_end.new.steps < c.match-tree.steps + (64 * (h + 1) * (g.M.Shape.BLOCK + 2) + (g.M.Leaf.Leaf.FIND + look_cost c.args.replaced.now.is_wanted h g.M.Leaf.Leaf.FIND))) same c.put_at_end.ensures.cost)

pub returns-clause-larger : goal.returns-clause-larger
returns-clause-larger g t c =
    let a = g.M.Augment.Augment in
    let map = c.args.part.tree.now in
    let same : (contents g.M.Leaf.Leaf.entries c.match-tree.tree-inside.top).entries ≡ map.entries = elim c.match-tree.branch [
      | in_default w ↦ search rules
      | in-Node+in-Some+in-Copy w ↦
          ap (λ t. (contents g.M.Leaf.Leaf.entries t.top).entries) w.tree-inside-is
          ∙ (top_node g.M.Leaf.Leaf.entries g.M.Key.Ord.cmp a.base_of a.unit_of a.combined g.M.Shape.BLOCK map w.in-Some.node.now w.in-Node.owner c.tree.inside.top w.in-Some.ensures.value w.in-Node.is c.tree.invariant c.tree.view_is).entries_are
      | in-Node+in_default-get_mut w ↦ ap (λ t. (contents g.M.Leaf.Leaf.entries t.top).entries) w.tree-inside-is ∙ ap (λ x. (contents g.M.Leaf.Leaf.entries x).entries) (sym w.in-Node.is) ∙ ap (λ x. x.entries) c.tree.view_is
    ] in
    rw (sym same) c.put_at_end.ensures.larger

pub returns-in-Left-clause-replaced : goal.returns-in-Left-clause-replaced
returns-in-Left-clause-replaced g t c = λ wanted.
    let a = g.M.Augment.Augment in
    let map = c.args.part.tree.now in
    let node = c.in-Some.node.now in
    let own = top_node g.M.Leaf.Leaf.entries g.M.Key.Ord.cmp a.base_of a.unit_of a.combined g.M.Shape.BLOCK map node c.in-Node.owner c.tree.inside.top c.in-Some.ensures.value c.in-Node.is c.tree.invariant c.tree.view_is in
    c.in_ok-growth-in-Left.ensures.replaced wanted
    ∙ sym (lookup_left g.met.M.Key.Ord.total node.left.entries node.key node.val node.right.entries c.args.key own.shape.increasing c.in-Left.ensures.way.0)
    ∙ ap (λ es. lookup g.M.Key.Ord.cmp es c.args.key) own.entries_are

pub returns-in-Right-clause-replaced : goal.returns-in-Right-clause-replaced
returns-in-Right-clause-replaced g t c = λ wanted.
    let a = g.M.Augment.Augment in
    let map = c.args.part.tree.now in
    let node = c.in-Some.node.now in
    let own = top_node g.M.Leaf.Leaf.entries g.M.Key.Ord.cmp a.base_of a.unit_of a.combined g.M.Shape.BLOCK map node c.in-Node.owner c.tree.inside.top c.in-Some.ensures.value c.in-Node.is c.tree.invariant c.tree.view_is in
    c.in_ok-growth-in-Right.ensures.replaced wanted
    ∙ sym (lookup_right g.met.M.Key.Ord.total node.left.entries node.key node.val node.right.entries c.args.key own.shape.increasing c.in-Right.ensures.way.0)
    ∙ ap (λ es. lookup g.M.Key.Ord.cmp es c.args.key) own.entries_are

pub returns-in-Here-clause-replaced : goal.returns-in-Here-clause-replaced
returns-in-Here-clause-replaced g t c = λ wanted.
    let a = g.M.Augment.Augment in
    let map = c.args.part.tree.now in
    let node = c.in-Some.node.now in
    let own = top_node g.M.Leaf.Leaf.entries g.M.Key.Ord.cmp a.base_of a.unit_of a.combined g.M.Shape.BLOCK map node c.in-Node.owner c.tree.inside.top c.in-Some.ensures.value c.in-Node.is c.tree.invariant c.tree.view_is in
    ap Some c.put_here.ensures.value
    ∙ sym (lookup_middle g.met.M.Key.Ord.total node.left.entries node.key node.val node.right.entries c.args.key own.shape.increasing c.in-Here.ensures.way)
    ∙ ap (λ es. lookup g.M.Key.Ord.cmp es c.args.key) own.entries_are

pub returns-clause-replaced : goal.returns-clause-replaced
returns-clause-replaced g t c =
    let a = g.M.Augment.Augment in
    let map = c.args.part.tree.now in
    let same : (contents g.M.Leaf.Leaf.entries c.match-tree.tree-inside.top).entries ≡ map.entries = elim c.match-tree.branch [
      | in_default w ↦ search rules
      | in-Node+in-Some+in-Copy w ↦
          ap (λ t. (contents g.M.Leaf.Leaf.entries t.top).entries) w.tree-inside-is
          ∙ (top_node g.M.Leaf.Leaf.entries g.M.Key.Ord.cmp a.base_of a.unit_of a.combined g.M.Shape.BLOCK map w.in-Some.node.now w.in-Node.owner c.tree.inside.top w.in-Some.ensures.value w.in-Node.is c.tree.invariant c.tree.view_is).entries_are
      | in-Node+in_default-get_mut w ↦ ap (λ t. (contents g.M.Leaf.Leaf.entries t.top).entries) w.tree-inside-is ∙ ap (λ x. (contents g.M.Leaf.Leaf.entries x).entries) (sym w.in-Node.is) ∙ ap (λ x. x.entries) c.tree.view_is
    ] in
    rw (sym same) c.put_at_end.ensures.replaced

pub returns-in_err-growth-in-Left-clause-cost : goal.returns-in_err-growth-in-Left-clause-cost
returns-in_err-growth-in-Left-clause-cost g t c =
    let a = g.M.Augment.Augment in
    let map = c.args.part.tree.now in
    let node = c.in-Some.node.now in
    let own = top_node g.M.Leaf.Leaf.entries g.M.Key.Ord.cmp a.base_of a.unit_of a.combined g.M.Shape.BLOCK map node c.in-Node.owner c.tree.inside.top c.in-Some.ensures.value c.in-Node.is c.tree.invariant c.tree.view_is in
    let level = level_changed node.left.height map.height g.M.Shape.BLOCK (left_is_lower map node own) in
    let look = look_in_side c.args.replaced.now.is_wanted node.left.height map.height g.M.Leaf.Leaf.FIND (left_is_lower map node own) in
    omega (arith, level, look, c.put_in.ensures.cost, c.in-Left.ensures.one_step)

pub returns-in_err-growth-in-Right-clause-cost : goal.returns-in_err-growth-in-Right-clause-cost
returns-in_err-growth-in-Right-clause-cost g t c =
    let a = g.M.Augment.Augment in
    let map = c.args.part.tree.now in
    let node = c.in-Some.node.now in
    let own = top_node g.M.Leaf.Leaf.entries g.M.Key.Ord.cmp a.base_of a.unit_of a.combined g.M.Shape.BLOCK map node c.in-Node.owner c.tree.inside.top c.in-Some.ensures.value c.in-Node.is c.tree.invariant c.tree.view_is in
    let level = level_changed node.right.height map.height g.M.Shape.BLOCK (right_is_lower map node own) in
    let look = look_in_side c.args.replaced.now.is_wanted node.right.height map.height g.M.Leaf.Leaf.FIND (right_is_lower map node own) in
    omega (arith, level, look, c.put_in-in-Right.ensures.cost, c.in-Right.ensures.one_step)

pub put_at_end-requires-clause-unset : goal.put_at_end-requires-clause-unset
put_at_end-requires-clause-unset g t c = c.requires.unset
