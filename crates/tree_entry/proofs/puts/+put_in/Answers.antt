use Rattle.std.proofs.lemmas.Grind.{common_steps}
use Rattle.std.proofs.Common.{◌≡◌, length, sym, arith}
use Rattle.std.specs.declared.cmp.Ordering.TheVariants.{Less}
use Rattle.map_model.proofs.Keys.{around, lesser, IsIncreasing-around}
use Rattle.map_model.proofs.Splits.{AllKeys-set}
use Rattle.map_model.proofs.Around.{set-around_less, set-around_equal, set-around_greater}
use Rattle.map_model.proofs.Cuts.{set_sizes}
use Rattle.tree_entry.proofs.Costs.{level_more, more_is_near}
use Rattle.tree_entry.proofs.puts.+put_in.Goals as goal

pub with_left_side-requires-clause-below : goal.with_left_side-requires-clause-below
with_left_side-requires-clause-below g t c =
    rw c.in_ok-left-in-Less.ensures.entries
    (AllKeys-set g.M.Key.Ord.cmp (λ k. g.M.Key.Ord.cmp k c.in-Node.node_key.now ≡ Less) c.in-Node.left.now.entries c.args.key c.args.val (around _ _ _ _ _ c.in-Node.ensures.top.increasing).lower (sym c.in-Less.ensures.value))

pub with_left_side-requires-clause-above : goal.with_left_side-requires-clause-above
with_left_side-requires-clause-above g t c = (around _ _ _ _ _ c.in-Node.ensures.top.increasing).upper

pub returns-in_ok-left-in-Less-clause-entries : goal.returns-in_ok-left-in-Less-clause-entries
returns-in_ok-left-in-Less-clause-entries g t c =
    let total = g.met.M.Key.Ord.total in
    let shape = c.in-Node.ensures.top in
    rw (shape.entries_are, set-around_less total c.in-Node.left.now.entries c.in-Node.node_key.now c.in-Node.node_val.now c.in-Node.right.now.entries c.args.key shape.increasing (sym c.in-Less.ensures.value) c.args.val)
    (rw c.in_ok-left-in-Less.ensures.entries at c.with_left_side.ensures.entries)

pub returns-in_ok-left-in-Less-clause-cost : goal.returns-in_ok-left-in-Less-clause-cost
returns-in_ok-left-in-Less-clause-cost g t c =
    let shape = c.in-Node.ensures.top in
    let sizes = set_sizes g.met.M.Key.Ord.total g.met.M.Key.Key.exact c.in-Node.left.now.entries c.args.key (around _ _ _ _ _ shape.increasing).left c.args.val in
    let near = more_is_near (length c.in-Node.left.now.entries) _ (length c.in-Node.right.now.entries) shape.balanced sizes.0 sizes.1 in
    let joined = rw c.in_ok-left-in-Less.ensures.entries at c.with_left_side.ensures.cost in
    let level = level_more c.in-Node.left.now.height c.args.part.tree.now.height g.M.Shape.BLOCK (omega (arith, shape.height_is)) in
    omega (arith, level, joined near.0 near.1, c.in_ok-left-in-Less.ensures.cost, c.order.ensures.one_step)

pub link-requires-clause-increasing : goal.link-requires-clause-increasing
link-requires-clause-increasing g t c =
    rw (g.met.M.Key.Key.exact _ _ (sym c.in-Equal.ensures.value)) (IsIncreasing-around g.met.M.Key.Ord.total c.in-Node.left.now.entries c.in-Node.node_key.now c.args.val c.in-Node.right.now.entries (around _ _ _ _ _ c.in-Node.ensures.top.increasing))

pub returns-in-Equal-clause-entries : goal.returns-in-Equal-clause-entries
returns-in-Equal-clause-entries g t c =
    let total = g.met.M.Key.Ord.total in
    let shape = c.in-Node.ensures.top in
    rw (shape.entries_are, set-around_equal total c.in-Node.left.now.entries c.in-Node.node_key.now c.in-Node.node_val.now c.in-Node.right.now.entries c.args.key shape.increasing (sym c.in-Equal.ensures.value) c.args.val) c.link.ensures.entries

pub with_right_side-requires-clause-below : goal.with_right_side-requires-clause-below
with_right_side-requires-clause-below g t c = (around _ _ _ _ _ c.in-Node.ensures.top.increasing).lower

pub with_right_side-requires-clause-above : goal.with_right_side-requires-clause-above
with_right_side-requires-clause-above g t c =
    rw c.in_ok-right-in-Greater.ensures.entries
    (AllKeys-set g.M.Key.Ord.cmp (λ k. g.M.Key.Ord.cmp c.in-Node.node_key.now k ≡ Less) c.in-Node.right.now.entries c.args.key c.args.val (around _ _ _ _ _ c.in-Node.ensures.top.increasing).upper (lesser g.met.M.Key.Ord.total _ _ (sym c.in-Greater.ensures.value)))

pub returns-in_ok-right-in-Greater-clause-entries : goal.returns-in_ok-right-in-Greater-clause-entries
returns-in_ok-right-in-Greater-clause-entries g t c =
    let total = g.met.M.Key.Ord.total in
    let shape = c.in-Node.ensures.top in
    rw (shape.entries_are, set-around_greater total c.in-Node.left.now.entries c.in-Node.node_key.now c.in-Node.node_val.now c.in-Node.right.now.entries c.args.key shape.increasing (sym c.in-Greater.ensures.value) c.args.val)
    (rw c.in_ok-right-in-Greater.ensures.entries at c.with_right_side.ensures.entries)

pub returns-in_ok-right-in-Greater-clause-cost : goal.returns-in_ok-right-in-Greater-clause-cost
returns-in_ok-right-in-Greater-clause-cost g t c =
    let shape = c.in-Node.ensures.top in
    let sizes = set_sizes g.met.M.Key.Ord.total g.met.M.Key.Key.exact c.in-Node.right.now.entries c.args.key (around _ _ _ _ _ shape.increasing).right c.args.val in
    let near = more_is_near (length c.in-Node.right.now.entries) _ (length c.in-Node.left.now.entries) (shape.balanced.1, shape.balanced.0) sizes.0 sizes.1 in
    let joined = rw c.in_ok-right-in-Greater.ensures.entries at c.with_right_side.ensures.cost in
    let level = level_more c.in-Node.right.now.height c.args.part.tree.now.height g.M.Shape.BLOCK (omega (arith, shape.height_is)) in
    omega (arith, level, joined near.1 near.0, c.in_ok-right-in-Greater.ensures.cost, c.order.ensures.one_step)

pub link-requires-clause-balanced : goal.link-requires-clause-balanced
link-requires-clause-balanced g t c = grind (arith, common_steps)
