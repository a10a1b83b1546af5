use Rattle.std.proofs.Common.{rules, ◌<◌, ◌≤◌, ◌*◌, length, sym, arith}
use Rattle.std.proofs.lemmas.Bool.{iff_false}
use Rattle.map_model.specs.Balance.{weight}
use Rattle.seq_core.proofs.Beside.{weight-beside, regroup-beside}
use Rattle.seq_core.proofs.joins.+join_beside.Goals as goal

pub join_beside-requires : goal.join_beside-requires
join_beside-requires g t c κs within =
    let not_here = iff_false c.link_here.ensures c.if-link_here.false in
    let heavy = weight-beside c.args.side _ _ _ _ c.sides_of-sides.ensures.items in
    let not_lighter : weight c.args.light.now.items ≤ 3 * weight c.sides_of-sides.result.near.now.items = omega (arith, not_here, c.weight_of.ensures.value, c.weight_of-else-are_small.ensures.value, heavy, c.sides_of-sides.ensures.balanced.0) in
    let shorter : length c.sides_of-sides.result.near.now.items < length c.args.heavy.tree.now.items = omega (arith, heavy) in
    search rules

pub repair_beside-requires-clause-not_too_light : goal.repair_beside-requires-clause-not_too_light
repair_beside-requires-clause-not_too_light g t c =
    let not_here = iff_false c.link_here.ensures c.if-link_here.false in
    let heavy = weight-beside c.args.side _ _ _ _ c.sides_of-sides.ensures.items in
    let near = weight-beside c.args.side _ _ _ _ c.in_ok-near.ensures in
    omega (arith, not_here, c.weight_of.ensures.value, c.weight_of-else-are_small.ensures.value, heavy, near, c.sides_of-sides.ensures.balanced.1)

pub repair_beside-requires-clause-not_too_heavy : goal.repair_beside-requires-clause-not_too_heavy
repair_beside-requires-clause-not_too_heavy g t c =
    let near = weight-beside c.args.side _ _ _ _ c.in_ok-near.ensures in
    omega (arith, near, c.sides_of-sides.ensures.balanced.0)

pub returns : goal.returns
returns g t c =
    rw (c.sides_of-sides.ensures.items, sym (regroup-beside c.args.side c.sides_of-sides.result.far.now.items c.sides_of-sides.result.item.now c.sides_of-sides.result.near.now.items c.args.item c.args.light.now.items))
    (rw (c.in_ok-near.ensures, c.in_ok-middle.ensures.value) at c.repair_beside.ensures)
