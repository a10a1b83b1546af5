use Rattle.seq_core.proofs.Beside.{regroup-twice}
use Rattle.seq_core.proofs.turns.turn_twice.Goals as goal

pub returns : goal.returns
returns g c =
    rw (c.sides_of-inner.ensures.items, regroup-twice c.args.side c.args.outer.now.items c.args.item c.sides_of-inner.result.far.now.items c.sides_of-inner.result.item.now c.sides_of-inner.result.near.now.items c.args.near.item.now c.args.near.near.now.items)
    (rw (c.in_ok-front.ensures, c.in_ok-back.ensures, c.in_ok-middle.ensures.value, c.in_ok-middle-2.ensures.value) at c.link_beside-3.ensures)
