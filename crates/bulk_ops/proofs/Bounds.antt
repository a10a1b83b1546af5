-- That the bound on the cost of a combination falls from two maps to their halves.
use Rattle.std.proofs.Common.{◌≡◌, ℕ, ◌+◌, ◌*◌, ◌^◌, ◌<◌, ◌≤◌, min, arith, refl, add_comm, mul-le-mul_left, mul-le-mul_right, mul-le-mul}
use Rattle.std.proofs.Math.Nat.{min_comm}
use Rattle.bulk_ops.specs.Costs.{levels, step_cost, combine_bound}
use Rattle.bulk_ops.proofs.Levels.{levels_least, levels_less}

-- two maps cut at the greater one's root: the halves have at most seven eighths of the weight of both
pub cut_falls : (x x1 x2 y y1 y2 : ℕ) → x1 + x2 + 1 ≡ x → x1 + 1 ≤ 3 * (x2 + 1) → x2 + 1 ≤ 3 * (x1 + 1) → y1 + y2 ≤ y → y ≤ x
    → (8 * (x1 + y1 + 2) ≤ 7 * (x + y + 2)) × (8 * (x2 + y2 + 2) ≤ 7 * (x + y + 2)) × (min x1 y1 + min x2 y2 ≤ min x y)
cut_falls x x1 x2 y y1 y2 whole left right shared less = (omega arith, omega arith, omega arith)

-- more levels, no smaller steps
pub step_mono : (block find l l' : ℕ) → l' ≤ l → step_cost block find l' ≤ step_cost block find l
unfolding step_cost
step_mono block find l l' less =
    let more : l' + 2 ≤ l + 2 = omega arith in
    omega (arith, mul-le-mul_right (block + 2) more)

-- two parts that share what is counted, each a level lower, and a step
parts_within : (m m1 m2 l l1 l2 s s1 s2 : ℕ) → m1 + m2 ≤ m → 1 ≤ m → l1 + 1 ≤ l → l2 + 1 ≤ l → s1 ≤ s → s2 ≤ s → m1 * (l1 + 1) * s1 + m2 * (l2 + 1) * s2 + s ≤ m * (l + 1) * s
parts_within m m1 m2 l l1 l2 s s1 s2 shared some fewer1 fewer2 less1 less2 =
    let first : m1 * (l1 + 1) * s1 ≤ m1 * l * s = mul-le-mul (mul-le-mul_left m1 fewer1) less1 in
    let second : m2 * (l2 + 1) * s2 ≤ m2 * l * s = mul-le-mul (mul-le-mul_left m2 fewer2) less2 in
    let both = mul-le-mul_right (l * s) shared in
    let step = mul-le-mul_right s some in
    omega (arith, first, second, both, step)

-- two maps cut at the first one's root: what the halves take, with this step, is within what the whole takes
pub bound_falls : (block find x x1 x2 y y1 y2 : ℕ) → x1 + x2 + 1 ≡ x → x1 + 1 ≤ 3 * (x2 + 1) → x2 + 1 ≤ 3 * (x1 + 1) → y1 + y2 ≤ y → y ≤ x → 1 ≤ y
    → combine_bound block find x1 y1 + combine_bound block find x2 y2 + step_cost block find (levels (x + y + 2)) ≤ combine_bound block find x y
unfolding combine_bound
bound_falls block find x x1 x2 y y1 y2 whole left right shared less some =
    let falls = cut_falls x x1 x2 y y1 y2 whole left right shared less in
    let fewer1 = levels_less (x + y + 2) (x1 + y1 + 2) (omega arith) falls.0 in
    let fewer2 = levels_less (x + y + 2) (x2 + y2 + 2) (omega arith) falls.1 in
    parts_within (min x y) (min x1 y1) (min x2 y2) (levels (x + y + 2)) (levels (x1 + y1 + 2)) (levels (x2 + y2 + 2)) (step_cost block find (levels (x + y + 2))) (step_cost block find (levels (x1 + y1 + 2))) (step_cost block find (levels (x2 + y2 + 2)))
    falls.2 (omega arith) fewer1 fewer2 (step_mono block find _ _ (omega (arith, fewer1))) (step_mono block find _ _ (omega (arith, fewer2)))

-- which of the maps is the first doesn't matter
pub combine_bound-comm : (block find x y : ℕ) → combine_bound block find x y ≡ combine_bound block find y x
unfolding combine_bound
combine_bound-comm block find x y = rw (min_comm x y, add_comm x y) refl

-- a step at each level for each entry of the lesser map
pub levels_within : (block find x y h k : ℕ) → h ≤ levels (x + y + 2) → k ≤ min x y → k * (h + 1) * step_cost block find (levels (x + y + 2)) ≤ combine_bound block find x y
unfolding combine_bound
levels_within block find x y h k low few =
    let more : h + 1 ≤ levels (x + y + 2) + 1 = omega arith in
    mul-le-mul_right (step_cost block find (levels (x + y + 2))) (mul-le-mul few more)

step_least : (block find l : ℕ) → 256 * (block + 2) + 2 * find ≤ step_cost block find l
unfolding step_cost
step_least block find l = omega arith

-- a map of height h split at a key, and the join of the halves' answers
pub cut_within : (block find h l : ℕ) → h ≤ l → (2 * h + 6 * l + 1) * (4 * block + 4) + find + (64 * (l + 1) * (block + 2) + (3 * l + 1) * (4 * block + 4)) ≤ step_cost block find l
unfolding step_cost
cut_within block find h l low = omega (arith, mul-le-mul_right block low)

-- one entry looked up in a map of height h, and put into it or removed
pub one_within : (block find h l : ℕ) → h + find + (64 * (h + 1) * (block + 2) + find) ≤ (h + 1) * step_cost block find l
one_within block find h l = omega (arith, mul-le-mul_left (h + 1) (step_least block find l))

-- few entries at a block
pub block_within : (block find l k : ℕ) → 1 ≤ k → 3 * (2 * block + k) ≤ k * step_cost block find l
block_within block find l k some =
    omega (arith, mul-le-mul_left k (step_least block find l), mul-le-mul_right block some)

-- what a node takes, and the entries that go to either side
sides_within : (h k k1 k2 s t : ℕ) → 1 ≤ k → k1 + k2 ≤ k → t ≤ s → t + k1 * h * s + k2 * h * s ≤ k * (h + 1) * s
sides_within h k k1 k2 s t some shared less =
    omega (arith, mul-le-mul_right (h * s) shared, mul-le-mul_right s some)

-- a cut of few entries, what stays at a key, and a join
join_within : (block find l : ℕ) → 12 + (64 * (l + 1) * (block + 2) + (3 * l + 1) * (4 * block + 4)) ≤ step_cost block find l
unfolding step_cost
join_within block find l = omega arith

-- a side is lower than its node
pub side_within : (h side k s : ℕ) → side + 1 ≤ h → k * (side + 1) * s ≤ k * h * s
side_within h side k s lower = mul-le-mul_right s (mul-le-mul_left k lower)

-- few entries at a node: what stays at its key, the join of the sides' answers, and what the sides take
pub node_within : (block find h l k k1 k2 : ℕ) → 1 ≤ k → k1 + k2 ≤ k
    → 12 + (64 * (l + 1) * (block + 2) + (3 * l + 1) * (4 * block + 4)) + k1 * h * step_cost block find l + k2 * h * step_cost block find l ≤ k * (h + 1) * step_cost block find l
node_within block find h l k k1 k2 some shared = sides_within h k k1 k2 (step_cost block find l) _ some shared (join_within block find l)

-- two maps of few entries, or of like sizes, as slices
pub small_within : (block find x y : ℕ) → x + y ≤ (4 * block + 15) * min x y → 1 ≤ min x y → 3 * (x + y) ≤ combine_bound block find x y
small_within block find x y small some =
    let step : 3 * (4 * block + 15) ≤ step_cost block find (levels (x + y + 2)) = omega (arith, step_least block find (levels (x + y + 2))) in
    let steps = mul-le-mul_left (min x y) step in
    let within : min x y * (0 + 1) * step_cost block find (levels (x + y + 2)) ≤ combine_bound block find x y = levels_within block find x y 0 (min x y) (omega arith) (omega arith) in
    omega (arith, small, steps, within)

-- a cut of the lesser map at the greater one's root leaves enough for the halves and the join of their answers
pub cut_pays : (block find x x1 x2 y y1 y2 h before after : ℕ) → x1 + x2 + 1 ≡ x → x1 + 1 ≤ 3 * (x2 + 1) → x2 + 1 ≤ 3 * (x1 + 1) → y1 + y2 ≤ y → y ≤ x → 1 ≤ y → h ≤ levels (x + y + 2)
    → after ≤ before + ((2 * h + 6 * levels (x + y + 2) + 1) * (4 * block + 4) + find)
    → after + (combine_bound block find x1 y1 + combine_bound block find x2 y2 + (64 * (levels (x + y + 2) + 1) * (block + 2) + (3 * levels (x + y + 2) + 1) * (4 * block + 4))) ≤ before + combine_bound block find x y
cut_pays block find x x1 x2 y y1 y2 h before after whole left right shared less some low cut =
    let falls = bound_falls block find x x1 x2 y y1 y2 whole left right shared less some in
    let step = cut_within block find h (levels (x + y + 2)) low in
    omega (arith, falls, step, cut)

-- few entries at a node: the sides' heights are below its own
pub node_pays : (block find l h left right k k1 k2 before cut front back after : ℕ) → left + 1 ≤ h → right + 1 ≤ h → 1 ≤ k → k1 + k2 ≤ k
    → cut ≤ before + 12 → front ≤ cut + k1 * ((left + 1) * step_cost block find l) → back ≤ front + k2 * ((right + 1) * step_cost block find l)
    → after ≤ back + (64 * (l + 1) * (block + 2) + (3 * l + 1) * (4 * block + 4)) → after ≤ before + k * ((h + 1) * step_cost block find l)
node_pays block find l h left right k k1 k2 before cut front back after low high some shared cut_cost front_cost back_cost join_cost =
    let near = side_within h left k1 (step_cost block find l) low in
    let far = side_within h right k2 (step_cost block find l) high in
    let node = node_within block find h l k k1 k2 some shared in
    omega (arith, near, far, node, cut_cost, front_cost, back_cost, join_cost)

-- any number of levels that is enough bounds what a combination takes
pub bound_within : (block find x y l : ℕ) → 7 ^ l * (x + y + 2) < 8 ^ l → combine_bound block find x y ≤ min x y * (l + 1) * step_cost block find l
unfolding combine_bound
bound_within block find x y l enough =
    let fewer = levels_least (x + y + 2) l enough in
    let more : levels (x + y + 2) + 1 ≤ l + 1 = omega (arith, fewer) in
    mul-le-mul (mul-le-mul_left (min x y) more) (step_mono block find l (levels (x + y + 2)) fewer)

-- and so what a combination of maps of as many entries took
pub combination_pays : (block find x x' y y' l before after : ℕ) → x' ≡ x → y' ≡ y → 7 ^ l * (x + 1 + (y + 1)) < 8 ^ l → after ≤ before + combine_bound block find x' y' → after ≤ before + min x y * (l + 1) * step_cost block find l
combination_pays block find x x' y y' l before after near far enough cost =
    let within = bound_within block find x y l (omega (arith, enough)) in
    omega (arith, within, rw (near, far) at cost)

-- few entries beside a map that is no higher than the levels, for any number that is no less
pub unlike_pays : (block find n h taken k m before after : ℕ) → h ≤ n → taken ≡ k → k ≤ m → after ≤ before + taken * ((h + 1) * step_cost block find n) → after ≤ before + m * ((n + 1) * step_cost block find n)
unlike_pays block find n h taken k m before after low same less cost =
    let more : h + 1 ≤ n + 1 = omega arith in
    let few : taken ≤ m = omega (arith, same, less) in
    let steps = mul-le-mul few (mul-le-mul_right (step_cost block find n) more) in
    omega (arith, steps, cost)

-- and so within what a combination may take
pub few_pays : (block find x y before after : ℕ) → after ≤ before + min x y * ((levels (x + y + 2) + 1) * step_cost block find (levels (x + y + 2))) → after ≤ before + combine_bound block find x y
unfolding combine_bound
few_pays block find x y before after cost = omega (arith, cost)

-- one entry of few
pub entry_pays : (block find n h k before after : ℕ) → 1 ≤ k → after ≤ before + (h + 64 * (h + 1) * (block + 2) + 2 * find) → after ≤ before + k * ((h + 1) * step_cost block find n)
entry_pays block find n h k before after some cost =
    let one = one_within block find h n in
    let more = mul-le-mul_right ((h + 1) * step_cost block find n) some in
    omega (arith, one, more, cost)

-- few entries at a block, or at nothing
pub block_pays : (block find n h entries k before after : ℕ) → 1 ≤ k → entries ≤ 2 * block → after ≤ before + 3 * (entries + k) → after ≤ before + k * ((h + 1) * step_cost block find n)
block_pays block find n h entries k before after some short cost =
    let one = block_within block find n k some in
    let level : 1 ≤ h + 1 = omega arith in
    let more = mul-le-mul_left k (mul-le-mul_right (step_cost block find n) level) in
    omega (arith, one, more, cost)
