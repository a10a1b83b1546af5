-- How many steps a split takes, by the levels of its parts.
use Rattle.std.proofs.Common.{◌≡◌, ℕ, zero, suc, ◌+◌, ◌*◌, ◌^◌, ◌<◌, ◌≤◌, max, List, ◌∷◌, ◌++◌, arith, inl, inr, sym, pow-suc, mul-le-mul_left, mul-le-mul_right}
use Rattle.std.proofs.lemmas.Bool.{cases_lt}
use Rattle.std.proofs.lemmas.Nat.{mul-le}
use Rattle.std.proofs.Math.Nat.{one-le-pow, pow-le-pow_left}
use Rattle.map_model.specs.Balance.{IsAtMostLevels, IsWithinLevels, weight}
use Rattle.map_model.proofs.Cuts.{weight-around}

-- the levels of a part go to what it has from below, and to the join with a side of the node
pub record AreLevels (block b part side : ℕ) : Type 0 where
  pub m : ℕ
  pub n : ℕ
  pub sum_is : m + n ≡ b
  pub part_levels : 3 ^ m * part ≤ 4 ^ m * block
  pub side_levels : IsWithinLevels block n side part

apart : (p q r s part side block most : ℕ) → part ≤ most → q * (3 * most) < s * side → r * block < p * part → 3 * p * (s * side) ≤ 4 * r * (q * block) → 1 ≤ q → ⊥
apart p q r s part side block most within far above whole some =
    let up = mul-le-mul_left q within in
    let sides : 3 * (q * part) ≤ s * side = omega (arith, up, far) in
    let scaled = mul-le-mul_left p sides in
    let parts : r * block + 1 ≤ p * part = omega (arith, above) in
    let more = mul-le-mul_left q parts in
    omega (arith, scaled, more, whole, some)

levels_from : (block part side m n b : ℕ) → m + n ≡ b → 3 ^ m * part ≤ 4 ^ m * block → 3 ^ m * (3 ^ n * side) ≤ 4 ^ m * (4 ^ n * block) → AreLevels block b part side
levels_from block part side zero n b sum part_levels whole =
    let wider = mul-le-mul_left (4 ^ n) (let w : block ≤ 3 * max part block = omega arith in w) in
    record { m = 0; n = n; sum_is = sum; part_levels = part_levels; side_levels = omega (arith, whole, wider) }
levels_from block part side (suc k) n b sum part_levels whole =
    elim (cases_lt (4 ^ n * (3 * max part block)) (3 ^ n * side)) [
      | inl far ↦ elim (cases_lt (4 ^ k * block) (3 ^ k * part)) [
        | inl above ↦ absurd (apart (3 ^ k) (4 ^ n) (4 ^ k) (3 ^ n) part side block (max part block) (omega arith) far above (omega (arith, rw (pow-suc 3 k, pow-suc 4 k) at whole)) (one-le-pow n 4 (omega arith)))
        | inr below ↦ levels_from block part side k (suc n) b (omega (arith, sum)) below (rw (pow-suc 3 n, pow-suc 4 n) (omega (arith, rw (pow-suc 3 k, pow-suc 4 k) at whole)))
      ]
      | inr near ↦ record { m = suc k; n = n; sum_is = sum; part_levels = part_levels; side_levels = near }
    ]

pub split_levels : (block b part side : ℕ) → 3 ^ b * (part + side) ≤ 4 ^ b * block → AreLevels block b part side
split_levels block b part side whole = levels_from block part side b 0 b (omega arith) (omega (arith, whole)) (omega (arith, whole))

-- a node's right side is above a part, or its left side below one
pub levels_above : {E : Type 0} (block b : ℕ) (whole part : List E) (e : E) (side : List E) → whole ≡ part ++ e ∷ side → 3 ^ b * weight whole ≤ 4 ^ b * block → AreLevels block b (weight part) (weight side)
levels_above block b whole part e side is few = let sum = weight-around whole part e side is in split_levels block b (weight part) (weight side) (rw sum at few)

pub levels_below : {E : Type 0} (block b : ℕ) (whole side : List E) (e : E) (part : List E) → whole ≡ side ++ e ∷ part → 3 ^ b * weight whole ≤ 4 ^ b * block → AreLevels block b (weight part) (weight side)
levels_below block b whole side e part is few = let sum = weight-around whole side e part is in split_levels block b (weight part) (weight side) (omega (arith, rw sum at few))

-- a part is no heavier than three times the other side, and so goes down no level
pub light_levels : (block n part side : ℕ) → part ≤ 3 * side → IsWithinLevels block n part side
light_levels block n part side light =
    mul-le (3 ^ n) part (4 ^ n) (3 * max side block) (pow-le-pow_left (let less : 3 ≤ 4 = omega arith in less) n) (omega (arith, light))

-- what a node adds to what the split of a side took: a comparison and a join
pub node_more : (height lower other b m n start ordered split done link find : ℕ) → lower + 1 ≤ height → m + n ≡ b → 1 ≤ link → ordered ≡ start + 1
    → split ≤ ordered + ((2 * lower + 3 * other + 3 * m + 1) * link + find) → done ≤ split + (3 * n + 1) * link → done ≤ start + ((2 * height + 3 * other + 3 * b + 1) * link + find)
node_more height lower other b m n start ordered split done link find higher sum some order below above =
    let up = mul-le-mul_right link higher in
    rw (sym sum) (omega (arith, up, some, order, below, above))

-- the same where the part below grows
pub node_more_below : (height lower other b m n start ordered split done link find : ℕ) → lower + 1 ≤ height → m + n ≡ b → 1 ≤ link → ordered ≡ start + 1
    → split ≤ ordered + ((2 * lower + 3 * m + 3 * other + 1) * link + find) → done ≤ split + (3 * n + 1) * link → done ≤ start + ((2 * height + 3 * b + 3 * other + 1) * link + find)
node_more_below height lower other b m n start ordered split done link find higher sum some order below above =
    let up = mul-le-mul_right link higher in
    rw (sym sum) (omega (arith, up, some, order, below, above))

-- the same where the split is refused
pub node_kept : (height lower other b m n start ordered split link find : ℕ) → lower + 1 ≤ height → m + n ≡ b → 1 ≤ link → ordered ≡ start + 1
    → split ≤ ordered + ((2 * lower + 3 * other + 3 * m + 1) * link + find) → split ≤ start + ((2 * height + 3 * other + 3 * b + 1) * link + find)
node_kept height lower other b m n start ordered split link find higher sum some order below =
    node_more height lower other b m n start ordered split split link find higher sum some order below (omega arith)

pub node_kept_below : (height lower other b m n start ordered split link find : ℕ) → lower + 1 ≤ height → m + n ≡ b → 1 ≤ link → ordered ≡ start + 1
    → split ≤ ordered + ((2 * lower + 3 * m + 3 * other + 1) * link + find) → split ≤ start + ((2 * height + 3 * b + 3 * other + 1) * link + find)
node_kept_below height lower other b m n start ordered split link find higher sum some order below =
    node_more_below height lower other b m n start ordered split split link find higher sum some order below (omega arith)
