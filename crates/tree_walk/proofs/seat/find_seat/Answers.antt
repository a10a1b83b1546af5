use Rattle.std.proofs.Common.{◌<◌, ◌++◌, [], drop, take, length, ap, sym, subst, ◌∙◌, arith}
use Rattle.map_model.proofs.Cuts.{length-around}
use Rattle.tree_walk.specs.Aheads.{behind}
use Rattle.tree_walk.specs.declared.ahead.Following.{Following}
use Rattle.tree_walk.specs.declared.seat.Seat.TheVariants.{Inside}
use Rattle.tree_walk.proofs.Ways.{LeadsAhead, LeadsBehind, ahead_left, ahead_here, ahead_right, behind_left, behind_right}
use Rattle.tree_walk.proofs.seat.find_seat.Goals as goal

pub returns-in-Block-clause-ahead : goal.returns-in-Block-clause-ahead
returns-in-Block-clause-ahead g c =
    let is = c.in-Block.ensures.top.entries_are in
    let within : c.down.at_in < length (g.M.Leaf.Leaf.entries c.in-Block.leaf.now) = omega (arith, ap length is, c.down.invariant.0) in
    c.down.invariant.1 (Inside c.in-Block.leaf c.down.at_in c.down.ahead) (λ more. (within, (more, ap (λ es. drop c.down.at_in es ++ behind c.down.ahead more) is)))

pub returns-in-Block-clause-behind : goal.returns-in-Block-clause-behind
returns-in-Block-clause-behind g c =
    c.down.invariant.2 (take c.down.at_in (g.M.Leaf.Leaf.entries c.in-Block.leaf.now)) ([], ap (take c.down.at_in) c.in-Block.ensures.top.entries_are)

pub down-preserved-then-at_in-before : goal.down-preserved-then-at_in-before
down-preserved-then-at_in-before g c =
    let is = c.in-Node.ensures.top.entries_are in
    let entry : Following _ g.row.M-Key.Denot g.row.M-Val.Denot _ _ _ = record { key = c.in-Node.key; val = c.in-Node.val; side = c.in-Node.right } in
    let left = c.in-Node.left.now.entries in
    let within : c.down.at_in < length left = omega (arith, c.size-before.ensures.value, c.if-at_in-before.true) in (
      within,
      rw c.nearer-ahead.ensures (ahead_left g.M.Leaf.Leaf.entries c.down.part.now.entries left entry is c.down.at_in c.down.ahead c.args.tree.now.entries c.args.at within c.down.invariant.1),
      behind_left g.M.Leaf.Leaf.entries c.down.part.now.entries left entry is c.down.at_in c.down.ahead c.args.tree.now.entries c.args.at within c.down.invariant.2,
    )

pub returns-then-at_in-before-2-clause-ahead : goal.returns-then-at_in-before-2-clause-ahead
returns-then-at_in-before-2-clause-ahead g c =
    let entry : Following _ g.row.M-Key.Denot g.row.M-Val.Denot _ _ _ = record { key = c.in-Node.key; val = c.in-Node.val; side = c.in-Node.right } in
    ahead_here g.M.Leaf.Leaf.entries c.down.part.now.entries c.in-Node.left.now.entries entry c.in-Node.ensures.top.entries_are c.down.at_in c.down.ahead c.args.tree.now.entries c.args.at (omega (arith, c.size-before.ensures.value, c.if-at_in-before-2.true)) c.down.invariant.1

pub down-preserved : goal.down-preserved
down-preserved g c =
    let is = c.in-Node.ensures.top.entries_are in
    let entry : Following _ g.row.M-Key.Denot g.row.M-Val.Denot _ _ _ = record { key = c.in-Node.key; val = c.in-Node.val; side = c.in-Node.right } in
    let left = c.in-Node.left.now.entries in
    let right = c.in-Node.right.now.entries in
    let before = c.size-before.ensures.value in
    let past : length left < c.down.at_in = omega (arith, before, c.if-at_in-before.false, c.if-at_in-before-2.false) in
    let size = length-around left (c.in-Node.key.now, c.in-Node.val.now) right in (
      omega (arith, before, ap length is, size, past, c.down.invariant.0),
      rw before (ahead_right g.M.Leaf.Leaf.entries c.down.part.now.entries left entry is c.down.at_in c.down.ahead c.args.tree.now.entries c.args.at past c.down.invariant.1),
      rw before (behind_right g.M.Leaf.Leaf.entries c.down.part.now.entries left entry is c.down.at_in c.down.ahead c.args.tree.now.entries c.args.at past c.down.invariant.2),
    )
