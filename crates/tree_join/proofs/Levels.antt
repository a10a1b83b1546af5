-- How many steps a join takes, by the levels that it goes down.
use Rattle.std.proofs.Common.{◌≡◌, ℕ, zero, suc, ◌+◌, ◌*◌, ◌^◌, ◌<◌, ◌≤◌, max, arith, pow-suc, mul-le-mul_left}
use Rattle.map_model.specs.Balance.{IsAtMostLevels, IsWithinLevels}
use Rattle.map_model.proofs.Heights.{levels_of_part, within_levels}

-- a join goes down where the heavy tree is heavier than three blocks too
pub far_from_light : (heavy light block : ℕ) → 4 * block < heavy + light + 1 → 3 * (light + 1) < heavy + 1 → 3 * max (light + 1) block < heavy + 1
far_from_light heavy light block many far = omega arith

pub level_more : (n outer near heavy light block start joined done link : ℕ) → heavy ≡ outer + near → near ≤ 3 * outer → 3 * max light block < heavy
    → ((m : ℕ) → IsWithinLevels block m near light → joined ≤ start + (3 * m + 1) * link) → done ≤ joined + 3 * link
    → IsWithinLevels block n heavy light → done ≤ start + (3 * n + 1) * link
level_more zero outer near heavy light block start joined done link whole balanced far below above few = absurd (omega (arith, far, few))
level_more (suc n) outer near heavy light block start joined done link whole balanced far below above few =
    let quarter : 4 * near ≤ 3 * heavy = omega (arith, whole, balanced) in
    let scaled = mul-le-mul_left (3 ^ n) quarter in
    let less : 3 * (3 ^ n * heavy) ≤ 4 * (4 ^ n * (3 * max light block)) = omega (arith, rw (pow-suc, pow-suc) at few) in
    let fewer : 3 ^ n * near ≤ 4 ^ n * (3 * max light block) = omega (arith, scaled, less) in
    omega (arith, below n fewer, above)

-- what a join takes without the first entry of the right tree, and what taking that off took
pub joined_levels : (block n left rest right start taken done link first : ℕ) → rest + 1 ≡ right
    → (IsWithinLevels block n left rest → IsWithinLevels block n rest left → done ≤ taken + (3 * n + 1) * link) → taken ≤ start + first
    → IsAtMostLevels block n (left + right) → done ≤ start + (first + (3 * n + 1) * link)
joined_levels block n left rest right start taken done link first whole below above few =
    let less = levels_of_part block n (left + rest) (left + right) (omega (arith, whole)) few in
    let back : IsAtMostLevels block n (rest + left) = levels_of_part block n (rest + left) (left + right) (omega (arith, whole)) few in
    omega (arith, below (within_levels block n left rest less) (within_levels block n rest left back), above)
