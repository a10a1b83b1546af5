-- How often a weight can lose an eighth of itself.
use Rattle.std.proofs.Common.{◌≡◌, ℕ, zero, suc, ◌+◌, ◌*◌, ◌^◌, ◌<◌, ◌≤◌, Bool, true, false, leb, arith, inl, inr, pow-suc, mul-le-mul_left, mul-le-mul_right}
use Rattle.std.proofs.Math.Nat.{one-le-pow, pow-le-pow_left, le_of_mul-le-mul_left}
use Rattle.std.proofs.lemmas.Bool.{cases_lt}
use Rattle.std.proofs.lemmas.Nat.{mul-pow}
use Rattle.bulk_ops.specs.Costs.{passing, levels}

-- those that are counted pass
passes : (p : ℕ → Bool) (n k : ℕ) → k < passing p n → p k ≡ true
passes p zero k less = absurd (omega arith)
passes p (suc n) zero less = grind arith
passes p (suc n) (suc k) less = grind (arith, passes (λ j. p (suc j)) n k)

-- the first that isn't counted fails, if n does
ends : (p : ℕ → Bool) (n : ℕ) → p n ≡ false → p (passing p n) ≡ false
ends p zero fails = fails
ends p (suc n) fails = grind (arith, ends (λ j. p (suc j)) n fails)

-- Bernoulli's inequality
grows : (n : ℕ) → 7 ^ n * (7 + n) ≤ 7 * 8 ^ n
grows zero = omega arith
grows (suc n) = rw (pow-suc 7 n, pow-suc 8 n) (omega (arith, grows n))

-- 8 * w losses leave less than 1
far_enough : (w : ℕ) → 7 ^ (8 * w) * w < 8 ^ (8 * w)
far_enough w =
    let some = one-le-pow (8 * w) 7 (omega arith) in
    omega (arith, grows (8 * w), some)

fails_far : (w k : ℕ) → 7 ^ k * w < 8 ^ k → leb (8 ^ k) (7 ^ k * w) ≡ false
fails_far w k less = grind arith

under_test : (w k : ℕ) → leb (8 ^ k) (7 ^ k * w) ≡ true → 8 ^ k ≤ 7 ^ k * w
under_test w k passed = grind arith

over_test : (w k : ℕ) → leb (8 ^ k) (7 ^ k * w) ≡ false → 7 ^ k * w < 8 ^ k
over_test w k failed = grind arith

-- fewer losses leave at least 1
pub levels_last : (w k : ℕ) → k < levels w → 8 ^ k ≤ 7 ^ k * w
unfolding levels
levels_last w k less = under_test w k (passes (λ j. leb (8 ^ j) (7 ^ j * w)) (8 * w) k less)

-- so many leave less than 1
pub levels_enough : (w : ℕ) → 7 ^ levels w * w < 8 ^ levels w
unfolding levels
levels_enough w = over_test w (levels w) (ends (λ j. leb (8 ^ j) (7 ^ j * w)) (8 * w) (fails_far w (8 * w) (far_enough w)))

-- they are the fewest that do
pub levels_least : (w l : ℕ) → 7 ^ l * w < 8 ^ l → levels w ≤ l
levels_least w l enough =
    elim (cases_lt l (levels w)) [ inl less ↦ absurd (omega (arith, levels_last w l less)) | inr more ↦ more ]

-- what brings a weight below 1 needs one loss fewer for seven eighths of it
one_fewer : (w w' l : ℕ) → 1 ≤ w' → 8 * w' ≤ 7 * w → 7 ^ l * w < 8 ^ l → levels w' + 1 ≤ l
one_fewer w w' zero some less enough = absurd (omega arith)
one_fewer w w' (suc l) some less enough =
    let scaled = mul-le-mul_left (7 ^ l) less in
    let left : 7 ^ l * w' < 8 ^ l = omega (arith, scaled, rw (pow-suc 7 l, pow-suc 8 l) at enough) in
    omega (arith, levels_least w' l left)

-- at most seven eighths of a weight have a level fewer
pub levels_less : (w w' : ℕ) → 1 ≤ w' → 8 * w' ≤ 7 * w → levels w' + 1 ≤ levels w
levels_less w w' some less = one_fewer w w' (levels w) some less (levels_enough w)

-- as many losses of a quarter leave at most 1
quarters : (l w : ℕ) → 7 ^ l * w < 8 ^ l → 3 ^ l * w ≤ 4 ^ l
quarters l w enough =
    let step : (3 * 8) ^ l ≤ (4 * 7) ^ l = pow-le-pow_left (let less : 24 ≤ 28 = omega arith in less) l in
    let parts : 3 ^ l * 8 ^ l ≤ 4 ^ l * 7 ^ l = rw (mul-pow 3 8 l, mul-pow 4 7 l) at step in
    let scaled = mul-le-mul_right w parts in
    let up = mul-le-mul_left (4 ^ l) enough in
    let some = one-le-pow l 8 (omega arith) in
    le_of_mul-le-mul_left {k = 8 ^ l} (omega (arith, scaled, up)) some

-- a weight is at most a block's after as many losses of a quarter
pub levels_low : (block w : ℕ) → 1 ≤ block → 3 ^ levels w * w ≤ 4 ^ levels w * block
levels_low block w some =
    let scaled = mul-le-mul_left (4 ^ levels w) some in
    omega (arith, quarters (levels w) w (levels_enough w), scaled)

-- and so is a part of it
pub levels_low_part : (block w part : ℕ) → 1 ≤ block → part ≤ w → 3 ^ levels w * part ≤ 4 ^ levels w * block
levels_low_part block w part some less =
    let scaled = mul-le-mul_left (3 ^ levels w) less in
    omega (arith, levels_low block w some, scaled)
