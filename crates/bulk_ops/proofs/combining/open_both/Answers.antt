use Rattle.std.proofs.Common.{◌+◌, ◌*◌, ◌≤◌, length, min, sym, arith}
use Rattle.map_model.specs.Balance.{weight}
use Rattle.bulk_ops.specs.Costs.{levels}
use Rattle.bulk_ops.proofs.Bounds.{few_pays, small_within}
use Rattle.bulk_ops.proofs.Levels.{levels_low_part}
use Rattle.bulk_ops.proofs.combining.open_both.Goals as goal

pub returns-then-are_small-clause-cost : goal.returns-then-are_small-clause-cost
returns-then-are_small-clause-cost g c =
    let block = g.M.Shape.BLOCK in
    let x = length c.args.a.now.entries in
    let y = length c.args.b.now.entries in
    let small : x + y ≤ (4 * block + 15) * min x y = rw (sym c.size-first.ensures.value, sym c.size-second.ensures.value, sym c.block_size-block.ensures.value) (c.are_small.ensures.small c.if-are_small.true (omega (arith, c.requires.first, c.size-first.ensures.value)) (omega (arith, c.requires.second, c.size-second.ensures.value))) in
    let within = small_within block g.M.Leaf.Leaf.FIND x y small (omega (arith, c.requires.first, c.requires.second)) in
    omega (arith, within, c.combine_small.ensures.cost)

pub returns-then-min-block-clause-cost : goal.returns-then-min-block-clause-cost
returns-then-min-block-clause-cost g c =
    let block = g.M.Shape.BLOCK in
    let a = c.args.a.now.entries in
    let b = c.args.b.now.entries in
    let whole = length a + length b + 2 in
    let low = levels_low_part block whole (weight a + weight b) g.M.Shape.lawful.0 (omega arith) in
    let pays = few_pays block g.M.Leaf.Leaf.FIND (length a) (length b) c.args.steps.now c.combine_unlike.new.steps (c.combine_unlike.ensures.cost (levels whole) low) in
    omega (arith, pays)
