use Rattle.std.proofs.Common.{◌≡◌, suc, ◌+◌, ◌-◌, length, take, ap, ◌∙◌, arith}
use Rattle.map_model.proofs.Cuts.{length-around}
use Rattle.pac_seq.proofs.Backs.{ends_right, none_back}
use Rattle.pac_seq.proofs.Fronts.{leads-here, leads-right}
use Rattle.pac_seq.proofs.places.seat_at.Goals as goal

pub returns-then-place_in-before-2-clause-ahead : goal.returns-then-place_in-before-2-clause-ahead
returns-then-place_in-before-2-clause-ahead g c =
    let is = c.in-Node.ensures.top.items_are in
    leads-here c.loop-items.part.now.items c.in-Node.left.now.items c.in-Node.item.now c.in-Node.right.now.items c.loop-items.place_in c.args.tree.now.items c.args.place is (c.if-place_in-before-2.true ∙ c.in-Node.ensures.top.before_is) c.loop-items.invariant.1

pub returns-then-place_in-before-2-clause-behind : goal.returns-then-place_in-before-2-clause-behind
returns-then-place_in-before-2-clause-behind g c = none_back (take c.args.place c.args.tree.now.items)

pub loop-items-preserved : goal.loop-items-preserved
loop-items-preserved g c =
    let is = c.in-Node.ensures.top.items_are in
    let left = c.in-Node.left.now.items in
    let right = c.in-Node.right.now.items in
    let rest = c.loop-items.place_in - (c.in-Node.before + 1) in
    let size = ap length is ∙ length-around left c.in-Node.item.now right in
    let past : c.loop-items.place_in ≡ length left + suc rest = omega (arith, c.if-place_in-before.false, c.if-place_in-before-2.false, c.in-Node.ensures.top.before_is) in (
      omega (arith, size, past, c.loop-items.invariant.0),
      leads-right c.loop-items.part.now.items left c.in-Node.item.now right c.loop-items.place_in rest c.args.tree.now.items c.args.place is past c.loop-items.invariant.1,
      ends_right c.loop-items.part.now.items left c.in-Node.item.now right c.loop-items.place_in rest c.args.tree.now.items c.args.place is past c.loop-items.invariant.2,
    )
