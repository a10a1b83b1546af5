use Rattle.std.proofs.Common.{◌≡◌, ◌≤◌, ◌∷◌, ◌++◌, length, sym, arith}
use Rattle.std.specs.declared.cmp.Ordering.TheVariants.{Less}
use Rattle.map_model.specs.Balance.{weight}
use Rattle.map_model.specs.Entries.{above, below}
use Rattle.map_model.proofs.Lengths.{length-filter_le}
use Rattle.map_model.proofs.Keys.{around, AllKeys-filter}
use Rattle.map_model.proofs.Lookups.{lookup_left, lookup_middle, lookup_right}
use Rattle.map_model.proofs.Around.{below-around_less, below-around_equal, below-around_greater, above-around_less, above-around_equal, above-around_greater}
use Rattle.tree_shape.specs.Shape.{link_cost}
use Rattle.tree_cut.proofs.Levels.{levels_above, levels_below, light_levels, node_more, node_more_below, node_kept, node_kept_below}
use Rattle.tree_cut.proofs.splits.+split_in.Goals as goal

pub extend_above-requires-clause-lower : goal.extend_above-requires-clause-lower
extend_above-requires-clause-lower g t c =
    rw (c.in_ok-parts-in-Less.ensures.above) (AllKeys-filter (λ k. g.M.Key.Ord.cmp k c.in-Node.node_key.now ≡ Less) _ c.in-Node.left.now.entries (around _ _ _ _ _ c.in-Node.ensures.top.increasing).lower)

pub extend_above-requires-clause-upper : goal.extend_above-requires-clause-upper
extend_above-requires-clause-upper g t c =
    (around _ _ _ _ _ c.in-Node.ensures.top.increasing).upper

pub extend_below-requires-clause-lower : goal.extend_below-requires-clause-lower
extend_below-requires-clause-lower g t c =
    (around _ _ _ _ _ c.in-Node.ensures.top.increasing).lower

pub extend_below-requires-clause-upper : goal.extend_below-requires-clause-upper
extend_below-requires-clause-upper g t c =
    rw (c.in_ok-parts-in-Greater.ensures.below) (AllKeys-filter (λ k. g.M.Key.Ord.cmp c.in-Node.node_key.now k ≡ Less) _ c.in-Node.right.now.entries (around _ _ _ _ _ c.in-Node.ensures.top.increasing).upper)

pub returns-in_ok-parts-in-Less-clause-below : goal.returns-in_ok-parts-in-Less-clause-below
returns-in_ok-parts-in-Less-clause-below g t c =
    let total = g.met.M.Key.Ord.total in
    let shape = c.in-Node.ensures.top in
    let left = c.in-Node.left.now.entries in
    let right = c.in-Node.right.now.entries in
    let key = c.in-Node.node_key.now in
    let val = c.in-Node.node_val.now in
    rw (shape.entries_are, below-around_less total left key val right c.args.key.now shape.increasing (sym c.in-Less.ensures.value)) (rw c.in_ok-parts-in-Less.ensures.below at c.extend_above.ensures.below)

pub returns-in_ok-parts-in-Less-clause-found : goal.returns-in_ok-parts-in-Less-clause-found
returns-in_ok-parts-in-Less-clause-found g t c =
    let total = g.met.M.Key.Ord.total in
    let shape = c.in-Node.ensures.top in
    let left = c.in-Node.left.now.entries in
    let right = c.in-Node.right.now.entries in
    let key = c.in-Node.node_key.now in
    let val = c.in-Node.node_val.now in
    rw (shape.entries_are, lookup_left total left key val right c.args.key.now shape.increasing (sym c.in-Less.ensures.value)) (rw c.in_ok-parts-in-Less.ensures.found at c.extend_above.ensures.found)

pub returns-in_ok-parts-in-Less-clause-above : goal.returns-in_ok-parts-in-Less-clause-above
returns-in_ok-parts-in-Less-clause-above g t c =
    let total = g.met.M.Key.Ord.total in
    let shape = c.in-Node.ensures.top in
    let left = c.in-Node.left.now.entries in
    let right = c.in-Node.right.now.entries in
    let key = c.in-Node.node_key.now in
    let val = c.in-Node.node_val.now in
    rw (shape.entries_are, above-around_less total left key val right c.args.key.now shape.increasing (sym c.in-Less.ensures.value)) (rw (c.in_ok-parts-in-Less.ensures.above) at c.extend_above.ensures.above)

pub returns-in-Equal-clause-below : goal.returns-in-Equal-clause-below
returns-in-Equal-clause-below g t c =
    let total = g.met.M.Key.Ord.total in
    let shape = c.in-Node.ensures.top in
    let left = c.in-Node.left.now.entries in
    let right = c.in-Node.right.now.entries in
    let key = c.in-Node.node_key.now in
    let val = c.in-Node.node_val.now in
    rw (shape.entries_are, below-around_equal total left key val right c.args.key.now shape.increasing (sym c.in-Equal.ensures.value)) c.parts_of_sides.ensures.below

pub returns-in-Equal-clause-found : goal.returns-in-Equal-clause-found
returns-in-Equal-clause-found g t c =
    let total = g.met.M.Key.Ord.total in
    let shape = c.in-Node.ensures.top in
    let left = c.in-Node.left.now.entries in
    let right = c.in-Node.right.now.entries in
    let key = c.in-Node.node_key.now in
    let val = c.in-Node.node_val.now in
    rw (shape.entries_are, lookup_middle total left key val right c.args.key.now shape.increasing (sym c.in-Equal.ensures.value)) c.parts_of_sides.ensures.found

pub returns-in-Equal-clause-above : goal.returns-in-Equal-clause-above
returns-in-Equal-clause-above g t c =
    let total = g.met.M.Key.Ord.total in
    let shape = c.in-Node.ensures.top in
    let left = c.in-Node.left.now.entries in
    let right = c.in-Node.right.now.entries in
    let key = c.in-Node.node_key.now in
    let val = c.in-Node.node_val.now in
    rw (shape.entries_are, above-around_equal total left key val right c.args.key.now shape.increasing (sym c.in-Equal.ensures.value)) c.parts_of_sides.ensures.above

pub returns-in_ok-parts-in-Greater-clause-below : goal.returns-in_ok-parts-in-Greater-clause-below
returns-in_ok-parts-in-Greater-clause-below g t c =
    let total = g.met.M.Key.Ord.total in
    let shape = c.in-Node.ensures.top in
    let left = c.in-Node.left.now.entries in
    let right = c.in-Node.right.now.entries in
    let key = c.in-Node.node_key.now in
    let val = c.in-Node.node_val.now in
    rw (shape.entries_are, below-around_greater total left key val right c.args.key.now shape.increasing (sym c.in-Greater.ensures.value)) (rw (c.in_ok-parts-in-Greater.ensures.below) at c.extend_below.ensures.below)

pub returns-in_ok-parts-in-Greater-clause-found : goal.returns-in_ok-parts-in-Greater-clause-found
returns-in_ok-parts-in-Greater-clause-found g t c =
    let total = g.met.M.Key.Ord.total in
    let shape = c.in-Node.ensures.top in
    let left = c.in-Node.left.now.entries in
    let right = c.in-Node.right.now.entries in
    let key = c.in-Node.node_key.now in
    let val = c.in-Node.node_val.now in
    rw (shape.entries_are, lookup_right total left key val right c.args.key.now shape.increasing (sym c.in-Greater.ensures.value)) (rw c.in_ok-parts-in-Greater.ensures.found at c.extend_below.ensures.found)

pub returns-in_ok-parts-in-Greater-clause-above : goal.returns-in_ok-parts-in-Greater-clause-above
returns-in_ok-parts-in-Greater-clause-above g t c =
    let total = g.met.M.Key.Ord.total in
    let shape = c.in-Node.ensures.top in
    let left = c.in-Node.left.now.entries in
    let right = c.in-Node.right.now.entries in
    let key = c.in-Node.node_key.now in
    let val = c.in-Node.node_val.now in
    rw (shape.entries_are, above-around_greater total left key val right c.args.key.now shape.increasing (sym c.in-Greater.ensures.value)) (rw c.in_ok-parts-in-Greater.ensures.above at c.extend_below.ensures.above)

pub returns-in-Empty-clause-cost : goal.returns-in-Empty-clause-cost
returns-in-Empty-clause-cost g t c = λ a b low high. omega arith

pub returns-in-Block-clause-cost : goal.returns-in-Block-clause-cost
returns-in-Block-clause-cost g t c = λ a b low high. omega (arith, c.split_block.ensures.cost)

pub returns-in-Equal-clause-cost : goal.returns-in-Equal-clause-cost
returns-in-Equal-clause-cost g t c = λ a b low high. omega (arith, c.order.ensures.one_step)

pub returns-in_err-parts-in-Less-clause-cost : goal.returns-in_err-parts-in-Less-clause-cost
returns-in_err-parts-in-Less-clause-cost g t c = λ a b low high.
    let order = g.M.Key.Ord.cmp in
    let total = g.met.M.Key.Ord.total in
    let shape = c.in-Node.ensures.top in
    let left = c.in-Node.left.now.entries in
    let right = c.in-Node.right.now.entries in
    let key = c.in-Node.node_key.now in
    let val = c.in-Node.node_val.now in
    let block = g.M.Shape.BLOCK in
    let q = c.args.key.now in
    let is = sym c.in-Less.ensures.value in
    let low_is : below order c.args.part.tree.now.entries q ≡ below order left q = rw shape.entries_are (below-around_less total left key val right q shape.increasing is) in
    let high_is : above order c.args.part.tree.now.entries q ≡ above order left q ++ (key, val) ∷ right = rw shape.entries_are (above-around_less total left key val right q shape.increasing is) in
    let levels = levels_above block b (above order c.args.part.tree.now.entries q) (above order left q) (key, val) right high_is high in
    let split = c.in_err-parts-in-Less.ensures.cost a levels.m (rw low_is at low) levels.part_levels in
    node_kept c.args.part.tree.now.height c.in-Node.left.now.height a b levels.m levels.n _ _ _ (link_cost block) _ (omega (arith, shape.height_is)) levels.sum_is (omega arith) c.order.ensures.one_step split

pub returns-in_ok-parts-in-Less-clause-cost : goal.returns-in_ok-parts-in-Less-clause-cost
returns-in_ok-parts-in-Less-clause-cost g t c = λ a b low high.
    let order = g.M.Key.Ord.cmp in
    let total = g.met.M.Key.Ord.total in
    let shape = c.in-Node.ensures.top in
    let left = c.in-Node.left.now.entries in
    let right = c.in-Node.right.now.entries in
    let key = c.in-Node.node_key.now in
    let val = c.in-Node.node_val.now in
    let block = g.M.Shape.BLOCK in
    let q = c.args.key.now in
    let is = sym c.in-Less.ensures.value in
    let low_is : below order c.args.part.tree.now.entries q ≡ below order left q = rw shape.entries_are (below-around_less total left key val right q shape.increasing is) in
    let high_is : above order c.args.part.tree.now.entries q ≡ above order left q ++ (key, val) ∷ right = rw shape.entries_are (above-around_less total left key val right q shape.increasing is) in
    let levels = levels_above block b (above order c.args.part.tree.now.entries q) (above order left q) (key, val) right high_is high in
    let split = c.in_ok-parts-in-Less.ensures.cost a levels.m (rw low_is at low) levels.part_levels in
    let joined = rw c.in_ok-parts-in-Less.ensures.above at c.extend_above.ensures.levels in
    let fewer : length (above order left q) ≤ length left = length-filter_le _ left in
    let light = light_levels block levels.n (weight (above order left q)) (weight right) (omega (arith, fewer, shape.balanced.0)) in
    node_more c.args.part.tree.now.height c.in-Node.left.now.height a b levels.m levels.n _ _ _ _ (link_cost block) _ (omega (arith, shape.height_is)) levels.sum_is (omega arith) c.order.ensures.one_step split (joined levels.n light levels.side_levels)

pub returns-in_err-parts-in-Greater-clause-cost : goal.returns-in_err-parts-in-Greater-clause-cost
returns-in_err-parts-in-Greater-clause-cost g t c = λ a b low high.
    let order = g.M.Key.Ord.cmp in
    let total = g.met.M.Key.Ord.total in
    let shape = c.in-Node.ensures.top in
    let left = c.in-Node.left.now.entries in
    let right = c.in-Node.right.now.entries in
    let key = c.in-Node.node_key.now in
    let val = c.in-Node.node_val.now in
    let block = g.M.Shape.BLOCK in
    let q = c.args.key.now in
    let is = sym c.in-Greater.ensures.value in
    let low_is : below order c.args.part.tree.now.entries q ≡ left ++ (key, val) ∷ below order right q = rw shape.entries_are (below-around_greater total left key val right q shape.increasing is) in
    let high_is : above order c.args.part.tree.now.entries q ≡ above order right q = rw shape.entries_are (above-around_greater total left key val right q shape.increasing is) in
    let levels = levels_below block a (below order c.args.part.tree.now.entries q) left (key, val) (below order right q) low_is low in
    let split = c.in_err-parts-in-Greater.ensures.cost levels.m b levels.part_levels (rw high_is at high) in
    node_kept_below c.args.part.tree.now.height c.in-Node.right.now.height b a levels.m levels.n _ _ _ (link_cost block) _ (omega (arith, shape.height_is)) levels.sum_is (omega arith) c.order.ensures.one_step split

pub returns-in_ok-parts-in-Greater-clause-cost : goal.returns-in_ok-parts-in-Greater-clause-cost
returns-in_ok-parts-in-Greater-clause-cost g t c = λ a b low high.
    let order = g.M.Key.Ord.cmp in
    let total = g.met.M.Key.Ord.total in
    let shape = c.in-Node.ensures.top in
    let left = c.in-Node.left.now.entries in
    let right = c.in-Node.right.now.entries in
    let key = c.in-Node.node_key.now in
    let val = c.in-Node.node_val.now in
    let block = g.M.Shape.BLOCK in
    let q = c.args.key.now in
    let is = sym c.in-Greater.ensures.value in
    let low_is : below order c.args.part.tree.now.entries q ≡ left ++ (key, val) ∷ below order right q = rw shape.entries_are (below-around_greater total left key val right q shape.increasing is) in
    let high_is : above order c.args.part.tree.now.entries q ≡ above order right q = rw shape.entries_are (above-around_greater total left key val right q shape.increasing is) in
    let levels = levels_below block a (below order c.args.part.tree.now.entries q) left (key, val) (below order right q) low_is low in
    let split = c.in_ok-parts-in-Greater.ensures.cost levels.m b levels.part_levels (rw high_is at high) in
    let joined = rw c.in_ok-parts-in-Greater.ensures.below at c.extend_below.ensures.levels in
    let fewer : length (below order right q) ≤ length right = length-filter_le _ right in
    let light = light_levels block levels.n (weight (below order right q)) (weight left) (omega (arith, fewer, shape.balanced.1)) in
    node_more_below c.args.part.tree.now.height c.in-Node.right.now.height b a levels.m levels.n _ _ _ _ (link_cost block) _ (omega (arith, shape.height_is)) levels.sum_is (omega arith) c.order.ensures.one_step split (joined levels.n levels.side_levels light)
