use Rattle.std.proofs.Common.{◌<◌, length, length-append, ◌∷◌, sym, ap, ◌∙◌, arith, rules}
use Rattle.std.specs.Ordering.{is_lt}
use Rattle.map_model.specs.Parts.{rank}
use Rattle.map_model.proofs.Lengths.{length-filter_le}
use Rattle.map_model.proofs.Ranges.{rank-around_less, rank-around_equal, rank-around_greater}
use Rattle.tree_query.proofs.Sides.{left_shorter, right_shorter}
use Rattle.tree_query.proofs.places.+rank_in.Goals as goal

pub overflow_add-result : goal.overflow_add-result
overflow_add-result g t c =
    let right = c.in-Node.right.now.entries in
    let few = length-filter_le (λ e. is_lt (g.M.Key.Ord.cmp e.0 c.args.key.now)) right in
    omega (arith, few, c.size-in-Greater.ensures.fits, c.size-in-Greater-2.ensures.value, c.size-in-Greater-2.ensures.fits, c.rank_in-in-Greater.ensures.value)

pub returns-in-Less-clause-value : goal.returns-in-Less-clause-value
returns-in-Less-clause-value g t c =
    let node = c.in-Node.ensures.top in
    c.rank_in.ensures.value
    ∙ sym (ap (λ m. rank g.M.Key.Ord.cmp m c.args.key.now) node.entries_are ∙ rank-around_less g.met.M.Key.Ord.total c.in-Node.left.now.entries c.in-Node.middle.now c.in-Node.val.now c.in-Node.right.now.entries c.args.key.now node.increasing (sym c.in-Less.ensures.value))

pub returns-in-Equal-clause-value : goal.returns-in-Equal-clause-value
returns-in-Equal-clause-value g t c =
    let node = c.in-Node.ensures.top in
    c.size.ensures.value
    ∙ sym (ap (λ m. rank g.M.Key.Ord.cmp m c.args.key.now) node.entries_are ∙ rank-around_equal g.met.M.Key.Ord.total c.in-Node.left.now.entries c.in-Node.middle.now c.in-Node.val.now c.in-Node.right.now.entries c.args.key.now node.increasing (sym c.in-Equal.ensures.value))

pub returns-in-Greater-clause-value : goal.returns-in-Greater-clause-value
returns-in-Greater-clause-value g t c =
    let node = c.in-Node.ensures.top in
    let left = c.in-Node.left.now.entries in
    let right = c.in-Node.right.now.entries in
    let e : g.row.M-Key.Denot × g.row.M-Val.Denot = (c.in-Node.middle.now, c.in-Node.val.now) in
    let law = ap (λ m. rank g.M.Key.Ord.cmp m c.args.key.now) node.entries_are ∙ rank-around_greater g.met.M.Key.Ord.total left c.in-Node.middle.now c.in-Node.val.now right c.args.key.now node.increasing (sym c.in-Greater.ensures.value) in
    let whole = ap length node.entries_are ∙ length-append left (e ∷ right) in
    omega (arith, law, whole, c.size-in-Greater.ensures.value, c.size-in-Greater-2.ensures.value, c.rank_in-in-Greater.ensures.value)

pub rank_in-requires : goal.rank_in-requires
rank_in-requires g t c κs within =
    let shorter : length c.in-Node.left.now.entries < length c.args.part.tree.now.entries = left_shorter _ _ _ _ c.in-Node.ensures.top.entries_are in
    search rules

pub rank_in-requires-in-Greater : goal.rank_in-requires-in-Greater
rank_in-requires-in-Greater g t c κs within =
    let shorter : length c.in-Node.right.now.entries < length c.args.part.tree.now.entries = right_shorter _ _ _ _ c.in-Node.ensures.top.entries_are in
    search rules

pub overflow_sub-behind : goal.overflow_sub-behind
overflow_sub-behind g t c =
    let shorter : length c.in-Node.right.now.entries < length c.args.part.tree.now.entries = right_shorter _ _ _ _ c.in-Node.ensures.top.entries_are in
    omega (arith, shorter, c.size-in-Greater.ensures.value, c.size-in-Greater-2.ensures.value)
