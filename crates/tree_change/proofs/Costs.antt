-- What a change in place costs on its way up, and where it becomes a copy.
use Rattle.std.proofs.Common.{ℕ, ◌+◌, ◌*◌, ◌<◌, ◌≤◌, arith, mul-le-mul_right}

-- at a node: the look at its key, and the fold made anew
pub level_changed : (below height block : ℕ) → below + 1 ≤ height → 64 * (below + 1) * (block + 2) + 3 ≤ 64 * (height + 1) * (block + 2)
level_changed below height block h =
    let rise : 64 * (below + 2) ≤ 64 * (height + 1) = omega arith in
    let more = mul-le-mul_right (block + 2) rise in
    omega (arith, more)

-- a copy after a look at the top
pub copied_cost : (height block find start looked copied : ℕ) → looked ≤ start + 1 → copied < looked + (64 * (height + 1) * (block + 2) + find) → copied ≤ start + (64 * (height + 1) * (block + 2) + find)
copied_cost height block find start looked copied look cost = omega (arith, look, cost)

-- a place sought in a block, and one or two blocks made of it
pub sought_cost : (height block find start sought made : ℕ) → sought ≤ start + find → made ≤ sought + 4 * block → made < start + (64 * (height + 1) * (block + 2) + find)
sought_cost height block find start sought made look cost =
    let level : 64 ≤ 64 * (height + 1) = omega arith in
    let more = mul-le-mul_right (block + 2) level in
    omega (arith, more, look, cost)
