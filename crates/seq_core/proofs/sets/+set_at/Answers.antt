use Rattle.std.proofs.Common.{◌≡◌, ◌<◌, ◌∷◌, length, arith}
use Rattle.std.proofs.Math.Seq.{set-append_seam}
use Rattle.std.proofs.lemmas.List.{set-append_left}
use Rattle.seq_core.proofs.Parts.{set-around}
use Rattle.seq_core.proofs.sets.+set_at.Goals as goal

pub returns-then-place-before : goal.returns-then-place-before
returns-then-place-before g t c =
    let left = c.in-Node.left.now.items in
    let here : c.args.place ≡ length left = omega (arith, c.if-place-before.true, c.in-Node.ensures.top.before_is) in
    rw (c.in-Node.ensures.top.items_are, here, set-append_seam left c.in-Node.middle.now c.in-Node.right.now.items c.args.item) c.join.ensures

pub returns-in_ok-left-in-Node : goal.returns-in_ok-left-in-Node
returns-in_ok-left-in-Node g t c =
    let left = c.in-Node.left.now.items in
    let before : c.args.place < length left = omega (arith, c.if-place-before-2.true, c.in-Node.ensures.top.before_is) in
    rw (c.in-Node.ensures.top.items_are, set-append_left left (c.in-Node.middle.now ∷ c.in-Node.right.now.items) c.args.place c.args.item before) (rw (c.in_ok-left-in-Node.ensures, c.in_ok-middle-in-Node.ensures.value) at c.join-then-place-before-2.ensures)

pub returns-in_ok-right-in-Node : goal.returns-in_ok-right-in-Node
returns-in_ok-right-in-Node g t c =
    let left = c.in-Node.left.now.items in
    let past : length left < c.args.place = omega (arith, c.if-place-before.false, c.if-place-before-2.false, c.in-Node.ensures.top.before_is) in
    rw (c.in-Node.ensures.top.items_are, set-around left c.in-Node.middle.now c.in-Node.right.now.items c.args.place c.args.item past)
    (rw (c.in_ok-right-in-Node.ensures, c.in_ok-middle-in-Node.ensures.value, c.in-Node.ensures.top.before_is) at c.join-else-place-before-2.ensures)
