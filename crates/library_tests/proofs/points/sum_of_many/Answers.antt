use Rattle.std.proofs.Common.{◌+◌, ◌*◌, ◌^◌, ◌<◌, ◌≤◌, length, arith, lit<, mul-le-mul_left}
use Rattle.range_tree.specs.Costs.{IsHighest}
use Rattle.library_tests.proofs.points.sum_of_many.Goals as goal

pub returns : goal.returns
returns g c few =
    let most : 3 ^ 42 * 10000001 < 4 ^ 42 * 64 = lit< tt in
    let fewer : length c.args.points.now + 1 ≤ 10000001 = omega (arith, few) in
    let highest : IsHighest (length c.args.points.now) 42 = let scaled = mul-le-mul_left (3 ^ 42) fewer in omega (arith, scaled, most) in
    omega (arith, c.sum_counted.ensures.cost 42 highest)
