use Rattle.std.proofs.Common.{length, ap, arith}
use Rattle.tree_shape.proofs.Nodes.{length-around}
use Rattle.tree_shape.proofs.cut.cut_owned.Goals as goal

pub returns : goal.returns
returns g c =
    let whole = c.in_ok-front.ensures.whole in
    let front = g.L.Leaf.entries c.in_ok-front.front in
    let back = g.L.Leaf.entries c.in_ok-front.back in
    let counted = length-around front (c.in_ok-front.key, c.in_ok-front.val) back in
    record { whole = whole; front_length = c.in_ok-front.ensures.place; back_length = omega (arith, ap length whole, counted, c.in_ok-front.ensures.place) }
