use Rattle.std.proofs.Common.{length, sym, ap, ◌∙◌, arith}
use Rattle.std.specs.Option.{option_map, option_or}
use Rattle.std.proofs.lemmas.Result.{IfOk-weaker}
use Rattle.map_model.specs.Parts.{next}
use Rattle.map_model.proofs.Cuts.{length-around}
use Rattle.map_model.proofs.Ranges.{next-around_less, next-around_equal, next-around_greater}
use Rattle.tree_query.proofs.Near.{or_given}
use Rattle.tree_query.proofs.neighbours.next.Goals as goal

pub down-preserved-in-Less : goal.down-preserved-in-Less
down-preserved-in-Less g c =
    let top = c.in-Node.ensures.top in
    let near = option_map (λ e. (e.0.now, e.1.now)) c.down.near in
    let here = ap (λ m. next g.M.Key.Ord.cmp m c.args.key.now) top.entries_are ∙ next-around_less g.met.M.Key.Ord.total c.in-Node.left.now.entries c.in-Node.middle.now c.in-Node.val.now c.in-Node.right.now.entries c.args.key.now top.increasing (sym c.in-Less.ensures.value) in (
      c.down.invariant.0 ∙ ap (λ o. option_or o near) here ∙ or_given _ _ near,
      omega (arith, c.down.invariant.1, top.height_is, c.order.ensures.one_step),
    )

pub down-preserved : goal.down-preserved
down-preserved g c =
    let top = c.in-Node.ensures.top in
    let near = option_map (λ e. (e.0.now, e.1.now)) c.down.near in
    let here = ap (λ m. next g.M.Key.Ord.cmp m c.args.key.now) top.entries_are ∙ next-around_greater g.met.M.Key.Ord.total c.in-Node.left.now.entries c.in-Node.middle.now c.in-Node.val.now c.in-Node.right.now.entries c.args.key.now top.increasing (sym c.in-Greater.ensures.value) in (
      c.down.invariant.0 ∙ ap (λ o. option_or o near) here,
      omega (arith, c.down.invariant.1, top.height_is, c.order.ensures.one_step),
    )

pub down-smaller-in-Less : goal.down-smaller-in-Less
down-smaller-in-Less g c =
    omega (arith, ap length c.in-Node.ensures.top.entries_are, length-around c.in-Node.left.now.entries (c.in-Node.middle.now, c.in-Node.val.now) c.in-Node.right.now.entries)

pub down-smaller : goal.down-smaller
down-smaller g c =
    omega (arith, ap length c.in-Node.ensures.top.entries_are, length-around c.in-Node.left.now.entries (c.in-Node.middle.now, c.in-Node.val.now) c.in-Node.right.now.entries)

pub returns-in-Equal-clause-value : goal.returns-in-Equal-clause-value
returns-in-Equal-clause-value g c =
    let top = c.in-Node.ensures.top in
    let near = option_map (λ e. (e.0.now, e.1.now)) c.down.near in
    let here = ap (λ m. next g.M.Key.Ord.cmp m c.args.key.now) top.entries_are ∙ next-around_equal g.met.M.Key.Ord.total c.in-Node.left.now.entries c.in-Node.middle.now c.in-Node.val.now c.in-Node.right.now.entries c.args.key.now top.increasing (sym c.in-Equal.ensures.value) in
    let whole = c.down.invariant.0 ∙ ap (λ o. option_or o near) (here ∙ sym c.in_ok-found-in-Equal.ensures.value) in
    IfOk-weaker c.or_near-in-Equal.result _ _ (λ x h. h ∙ sym whole) c.or_near-in-Equal.ensures.value
