use Rattle.std.proofs.lemmas.Grind.{common_steps}
use Rattle.std.proofs.Common.{◌≡◌, length, sym, arith}
use Rattle.std.specs.declared.cmp.Ordering.TheVariants.{Less}
use Rattle.map_model.proofs.Keys.{around, AllKeys-filter, IsBefore-around}
use Rattle.map_model.proofs.Around.{drop_key-around_less, drop_key-around_equal, drop_key-around_greater}
use Rattle.map_model.proofs.Cuts.{drop_sizes}
use Rattle.tree_entry.proofs.Costs.{level_more, less_is_near}
use Rattle.tree_entry.proofs.dels.+del_in.Goals as goal

pub with_left_side-requires-clause-below : goal.with_left_side-requires-clause-below
with_left_side-requires-clause-below g t c =
    rw c.in_ok-left-in-Less.ensures.entries
    (AllKeys-filter (λ k. g.M.Key.Ord.cmp k c.in-Node.node_key.now ≡ Less) _ c.in-Node.left.now.entries (around _ _ _ _ _ c.in-Node.ensures.top.increasing).lower)

pub with_left_side-requires-clause-above : goal.with_left_side-requires-clause-above
with_left_side-requires-clause-above g t c = (around _ _ _ _ _ c.in-Node.ensures.top.increasing).upper

pub returns-in_ok-left-in-Less-clause-entries : goal.returns-in_ok-left-in-Less-clause-entries
returns-in_ok-left-in-Less-clause-entries g t c =
    let total = g.met.M.Key.Ord.total in
    let shape = c.in-Node.ensures.top in
    rw (shape.entries_are, drop_key-around_less total c.in-Node.left.now.entries c.in-Node.node_key.now c.in-Node.node_val.now c.in-Node.right.now.entries c.args.key.now shape.increasing (sym c.in-Less.ensures.value))
    (rw c.in_ok-left-in-Less.ensures.entries at c.with_left_side.ensures.entries)

pub returns-in_ok-left-in-Less-clause-cost : goal.returns-in_ok-left-in-Less-clause-cost
returns-in_ok-left-in-Less-clause-cost g t c =
    let shape = c.in-Node.ensures.top in
    let sizes = drop_sizes g.met.M.Key.Ord.total g.met.M.Key.Key.exact c.in-Node.left.now.entries c.args.key.now (around _ _ _ _ _ shape.increasing).left in
    let near = less_is_near (length c.in-Node.left.now.entries) _ (length c.in-Node.right.now.entries) shape.balanced sizes.0 sizes.1 in
    let joined = rw c.in_ok-left-in-Less.ensures.entries at c.with_left_side.ensures.cost in
    let level = level_more c.in-Node.left.now.height c.args.part.tree.now.height g.M.Shape.BLOCK (omega (arith, shape.height_is)) in
    omega (arith, level, joined near.0 near.1, c.in_ok-left-in-Less.ensures.cost, c.order.ensures.one_step)

pub join2-requires : goal.join2-requires
join2-requires g t c =
    let sides = around _ _ _ _ _ c.in-Node.ensures.top.increasing in
    record { before = IsBefore-around g.met.M.Key.Ord.total c.in-Node.left.now.entries c.in-Node.node_key.now c.in-Node.right.now.entries sides.lower sides.upper }

pub returns-in-Equal-clause-entries : goal.returns-in-Equal-clause-entries
returns-in-Equal-clause-entries g t c =
    let total = g.met.M.Key.Ord.total in
    let shape = c.in-Node.ensures.top in
    rw (shape.entries_are, drop_key-around_equal total c.in-Node.left.now.entries c.in-Node.node_key.now c.in-Node.node_val.now c.in-Node.right.now.entries c.args.key.now shape.increasing (sym c.in-Equal.ensures.value)) c.join2.ensures.entries

pub returns-in-Equal-clause-cost : goal.returns-in-Equal-clause-cost
returns-in-Equal-clause-cost g t c =
    let shape = c.in-Node.ensures.top in
    let level = level_more c.in-Node.right.now.height c.args.part.tree.now.height g.M.Shape.BLOCK (omega (arith, shape.height_is)) in
    omega (arith, level, c.join2.ensures.cost shape.balanced, c.order.ensures.one_step)

pub with_right_side-requires-clause-below : goal.with_right_side-requires-clause-below
with_right_side-requires-clause-below g t c = (around _ _ _ _ _ c.in-Node.ensures.top.increasing).lower

pub with_right_side-requires-clause-above : goal.with_right_side-requires-clause-above
with_right_side-requires-clause-above g t c =
    rw c.in_ok-right-in-Greater.ensures.entries
    (AllKeys-filter (λ k. g.M.Key.Ord.cmp c.in-Node.node_key.now k ≡ Less) _ c.in-Node.right.now.entries (around _ _ _ _ _ c.in-Node.ensures.top.increasing).upper)

pub returns-in_ok-right-in-Greater-clause-entries : goal.returns-in_ok-right-in-Greater-clause-entries
returns-in_ok-right-in-Greater-clause-entries g t c =
    let total = g.met.M.Key.Ord.total in
    let shape = c.in-Node.ensures.top in
    rw (shape.entries_are, drop_key-around_greater total c.in-Node.left.now.entries c.in-Node.node_key.now c.in-Node.node_val.now c.in-Node.right.now.entries c.args.key.now shape.increasing (sym c.in-Greater.ensures.value))
    (rw c.in_ok-right-in-Greater.ensures.entries at c.with_right_side.ensures.entries)

pub returns-in_ok-right-in-Greater-clause-cost : goal.returns-in_ok-right-in-Greater-clause-cost
returns-in_ok-right-in-Greater-clause-cost g t c =
    let shape = c.in-Node.ensures.top in
    let sizes = drop_sizes g.met.M.Key.Ord.total g.met.M.Key.Key.exact c.in-Node.right.now.entries c.args.key.now (around _ _ _ _ _ shape.increasing).right in
    let near = less_is_near (length c.in-Node.right.now.entries) _ (length c.in-Node.left.now.entries) (shape.balanced.1, shape.balanced.0) sizes.0 sizes.1 in
    let joined = rw c.in_ok-right-in-Greater.ensures.entries at c.with_right_side.ensures.cost in
    let level = level_more c.in-Node.right.now.height c.args.part.tree.now.height g.M.Shape.BLOCK (omega (arith, shape.height_is)) in
    omega (arith, level, joined near.1 near.0, c.in_ok-right-in-Greater.ensures.cost, c.order.ensures.one_step)

pub del_in_block-requires-clause-same : goal.del_in_block-requires-clause-same
del_in_block-requires-clause-same g t c = grind (arith, common_steps)
