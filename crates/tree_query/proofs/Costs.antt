-- The steps that the fold of a range takes at a node, and the images and steps of its projection.
use Rattle.std.proofs.Common.{◌≡◌, ℕ, ◌+◌, ◌*◌, ◌<◌, ◌≤◌, false, arith, mul-le-mul_left}
use Rattle.std.proofs.lemmas.Bool.{true≢false}
use Rattle.tree_query.specs.declared.range.KeyRange.{KeyRange}
use Rattle.tree_query.specs.declared.range.KeyRange.TheVariants.{All, AtMost, AtLeast, Between, Below, Above}
use Rattle.tree_query.specs.Within.{is_all, left_part, right_part, end_tests, begin_tests, fold_cost, image_cost, span_cost}

module _ {K : Type 0} (block side height : ℕ) (lower : side < height) where
  -- the range ends before the node's key, or begins after it
  pub cost_aside : (range : KeyRange K) → is_all range ≡ false → fold_cost range side block + 2 ≤ fold_cost range height block
  cost_aside All some = absurd (true≢false some)
  cost_aside (AtMost hi) some = omega arith
  cost_aside (AtLeast lo) some = omega arith
  cost_aside (Between lo hi) some = omega arith
  cost_aside (Below hi) some = omega arith
  cost_aside (Above lo) some = omega arith

module _ {K : Type 0} (block left right height : ℕ) (left_lower : left < height) (right_lower : right < height) where
  -- the key lies in the range
  pub cost_inside : (range : KeyRange K) → is_all range ≡ false → fold_cost (left_part range) left block + fold_cost (right_part range) right block + 4 ≤ fold_cost range height block
  cost_inside All some = absurd (true≢false some)
  cost_inside (AtMost hi) some = omega arith
  cost_inside (AtLeast lo) some = omega arith
  cost_inside (Between lo hi) some = omega arith
  cost_inside (Below hi) some = omega arith
  cost_inside (Above lo) some = omega arith

-- a block that the range does not have whole
pub cost_block : {K : Type 0} (block count height : ℕ) → count ≤ 2 * block → (range : KeyRange K) → is_all range ≡ false → 3 * count ≤ fold_cost range height block
cost_block block count height short All some = absurd (true≢false some)
cost_block block count height short (AtMost hi) some = omega arith
cost_block block count height short (AtLeast lo) some = omega arith
cost_block block count height short (Between lo hi) some = omega arith
cost_block block count height short (Below hi) some = omega arith
cost_block block count height short (Above lo) some = omega arith

module _ {K : Type 0} (block side height : ℕ) (lower : side < height) where
  -- the range ends before the node's key, or begins after it
  pub images_aside : (range : KeyRange K) → is_all range ≡ false → image_cost range side block ≤ image_cost range height block
  images_aside All some = absurd (true≢false some)
  images_aside (AtMost hi) some = omega arith
  images_aside (AtLeast lo) some = omega arith
  images_aside (Between lo hi) some = omega arith
  images_aside (Below hi) some = omega arith
  images_aside (Above lo) some = omega arith

module _ {K : Type 0} (block left right height : ℕ) (left_lower : left < height) (right_lower : right < height) where
  -- the key lies in the range
  pub images_inside : (range : KeyRange K) → is_all range ≡ false → image_cost (left_part range) left block + image_cost (right_part range) right block + 1 ≤ image_cost range height block
  images_inside All some = absurd (true≢false some)
  images_inside (AtMost hi) some = omega arith
  images_inside (AtLeast lo) some = omega arith
  images_inside (Between lo hi) some = omega arith
  images_inside (Below hi) some = omega arith
  images_inside (Above lo) some = omega arith

-- a block that the range does not have whole
pub images_block : {K : Type 0} (block count height : ℕ) → count ≤ 2 * block → (range : KeyRange K) → is_all range ≡ false → count + 1 ≤ image_cost range height block
images_block block count height short All some = absurd (true≢false some)
images_block block count height short (AtMost hi) some = omega arith
images_block block count height short (AtLeast lo) some = omega arith
images_block block count height short (Between lo hi) some = omega arith
images_block block count height short (Below hi) some = omega arith
images_block block count height short (Above lo) some = omega arith

-- any range takes an image
pub images_some : {K : Type 0} (block height : ℕ) (range : KeyRange K) → 1 ≤ image_cost range height block
images_some block height All = omega arith
images_some block height (AtMost hi) = omega arith
images_some block height (AtLeast lo) = omega arith
images_some block height (Between lo hi) = omega arith
images_some block height (Below hi) = omega arith
images_some block height (Above lo) = omega arith

module _ {K : Type 0} (block side height most : ℕ) (lower : side < height) where
  -- the range ends before the node's key, or begins after it
  pub work_aside : (range : KeyRange K) → is_all range ≡ false → span_cost range side block most + end_tests range + begin_tests range ≤ span_cost range height block most
  work_aside range some = let images : side + 1 ≤ height = omega (arith, lower) in let scaled = mul-le-mul_left most images in by_range range some scaled
    where
      by_range : (range : KeyRange K) → is_all range ≡ false → most * (side + 1) ≤ most * height → span_cost range side block most + end_tests range + begin_tests range ≤ span_cost range height block most
      by_range All some scaled = absurd (true≢false some)
      by_range (AtMost hi) some scaled = omega (arith, scaled, lower)
      by_range (AtLeast lo) some scaled = omega (arith, scaled, lower)
      by_range (Between lo hi) some scaled = omega (arith, scaled, lower)
      by_range (Below hi) some scaled = omega (arith, scaled, lower)
      by_range (Above lo) some scaled = omega (arith, scaled, lower)

module _ {K : Type 0} (block left right height most : ℕ) (left_lower : left < height) (right_lower : right < height) where
  -- the key lies in the range
  pub work_inside : (range : KeyRange K) → is_all range ≡ false → span_cost (left_part range) left block most + span_cost (right_part range) right block most + most + end_tests range + begin_tests range ≤ span_cost range height block most
  work_inside range some =
      let low : left + 1 ≤ height = omega (arith, left_lower) in
      let high : right + 1 ≤ height = omega (arith, right_lower) in
      by_range range some (mul-le-mul_left most low) (mul-le-mul_left most high)
    where
      by_range : (range : KeyRange K) → is_all range ≡ false → most * (left + 1) ≤ most * height → most * (right + 1) ≤ most * height → span_cost (left_part range) left block most + span_cost (right_part range) right block most + most + end_tests range + begin_tests range ≤ span_cost range height block most
      by_range All some low high = absurd (true≢false some)
      by_range (AtMost hi) some low high = omega (arith, high, right_lower)
      by_range (AtLeast lo) some low high = omega (arith, low, left_lower)
      by_range (Between lo hi) some low high = omega (arith, low, high, left_lower, right_lower)
      by_range (Below hi) some low high = omega (arith, high, right_lower)
      by_range (Above lo) some low high = omega (arith, low, left_lower)

-- a block that the range does not have whole
pub work_block : {K : Type 0} (block count height most : ℕ) → count ≤ 2 * block → (range : KeyRange K) → is_all range ≡ false → (count + 1) * most + count * (end_tests range + begin_tests range) ≤ span_cost range height block most
work_block {K} block count height most short range some = by_range range some (mul-le-mul_left most short)
  where
    by_range : (range : KeyRange K) → is_all range ≡ false → most * count ≤ most * (2 * block) → (count + 1) * most + count * (end_tests range + begin_tests range) ≤ span_cost range height block most
    by_range All some scaled = absurd (true≢false some)
    by_range (AtMost hi) some scaled = omega (arith, scaled, short)
    by_range (AtLeast lo) some scaled = omega (arith, scaled, short)
    by_range (Between lo hi) some scaled = omega (arith, scaled, short)
    by_range (Below hi) some scaled = omega (arith, scaled, short)
    by_range (Above lo) some scaled = omega (arith, scaled, short)

-- any range takes an image
pub work_some : {K : Type 0} (block height most : ℕ) (range : KeyRange K) → most ≤ span_cost range height block most
work_some block height most range = omega (arith, mul-le-mul_left most (images_some block height range))

-- up to a place of a block
pub work_over : {at count : ℕ} (most tests : ℕ) → at ≤ count → at * most + at * tests ≤ count * most + count * tests
work_over most tests less = omega (arith, mul-le-mul_left most less, mul-le-mul_left tests less)
