use Rattle.std.proofs.Common.{rules, ◌<◌, ◌≤◌, ◌∷◌, length, arith}
use Rattle.std.proofs.lemmas.List.{drop-append-le}
use Rattle.seq_core.proofs.Nodes.{left_shorter, right_shorter}
use Rattle.seq_core.proofs.Parts.{drop-around}
use Rattle.seq_core.proofs.cuts.+skip.Goals as goal

pub returns-then-count-before : goal.returns-then-count-before
returns-then-count-before g t c =
    let past : length c.in-Node.left.now.items < c.args.count = omega (arith, c.if-count-before.true, c.in-Node.ensures.top.before_is) in
    rw (c.in-Node.ensures.top.items_are, drop-around c.in-Node.left.now.items c.in-Node.item.now c.in-Node.right.now.items c.args.count past) (rw c.in-Node.ensures.top.before_is at c.skip.ensures)

pub skip-requires : goal.skip-requires
skip-requires g t c κs =
    let shorter : length c.in-Node.right.now.items < length c.args.part.tree.now.items = right_shorter _ _ _ _ c.in-Node.ensures.top.items_are in
    search rules

pub skip-requires-in-Node : goal.skip-requires-in-Node
skip-requires-in-Node g t c κs =
    let shorter : length c.in-Node.left.now.items < length c.args.part.tree.now.items = left_shorter _ _ _ _ c.in-Node.ensures.top.items_are in
    search rules

pub returns-in_ok-share-in-Node : goal.returns-in_ok-share-in-Node
returns-in_ok-share-in-Node g t c =
    let within : c.args.count ≤ length c.in-Node.left.now.items = omega (arith, c.if-count-before.false, c.in-Node.ensures.top.before_is) in
    rw (c.in-Node.ensures.top.items_are, drop-append-le c.args.count c.in-Node.left.now.items (c.in-Node.item.now ∷ c.in-Node.right.now.items) within)
    (rw (c.in_ok-back-in-Node.ensures, c.in_ok-share-in-Node.ensures.value) at c.join.ensures)
