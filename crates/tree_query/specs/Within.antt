-- Ranges of keys, and the entries of a map whose keys lie in one.
use Rattle.std.specs.Prelude.{ℕ, ◌+◌, ◌*◌, Bool, true, false, ◌&&◌, List}
use Rattle.std.specs.List.{filter}
use Rattle.std.specs.declared.cmp.Ordering.{Ordering}
use Rattle.std.specs.Ordering.{is_lt, is_le, is_gt, is_ge}
use Rattle.tree_query.specs.declared.range.KeyRange.{KeyRange}
use Rattle.tree_query.specs.declared.range.KeyRange.TheVariants.{All, AtMost, AtLeast, Between, Below, Above}

module _ {K : Type 0} (order : K → K → Ordering) where
  -- a key lies in a range
  abbrev pub in_range : KeyRange K → K → Bool
  in_range All k = true
  in_range (AtMost hi) k = is_le (order k hi.now)
  in_range (AtLeast lo) k = is_ge (order k lo.now)
  in_range (Between lo hi) k = is_ge (order k lo.now) && is_le (order k hi.now)
  in_range (Below hi) k = is_lt (order k hi.now)
  in_range (Above lo) k = is_gt (order k lo.now)

  -- the end of a range, if it has one, shows that all its keys are less than a key
  abbrev pub ends_before : KeyRange K → K → Bool
  ends_before All k = false
  ends_before (AtMost hi) k = is_gt (order k hi.now)
  ends_before (AtLeast lo) k = false
  ends_before (Between lo hi) k = is_gt (order k hi.now)
  ends_before (Below hi) k = is_ge (order k hi.now)
  ends_before (Above lo) k = false

  -- the begin of a range, if it has one, shows that all its keys are greater than a key
  abbrev pub begins_after : KeyRange K → K → Bool
  begins_after All k = false
  begins_after (AtMost hi) k = false
  begins_after (AtLeast lo) k = is_lt (order k lo.now)
  begins_after (Between lo hi) k = is_lt (order k lo.now)
  begins_after (Below hi) k = false
  begins_after (Above lo) k = is_le (order k lo.now)

module _ {K V : Type 0} (order : K → K → Ordering) where
  -- the entries with keys in a range
  abbrev pub within : KeyRange K → List (K × V) → List (K × V)
  within range m = filter (λ e. in_range order range e.0) m

module _ {K : Type 0} where
  abbrev pub is_all : KeyRange K → Bool
  is_all All = true
  is_all (AtMost hi) = false
  is_all (AtLeast lo) = false
  is_all (Between lo hi) = false
  is_all (Below hi) = false
  is_all (Above lo) = false

  -- what a range is to the keys less than one that lies in it
  abbrev pub left_part : KeyRange K → KeyRange K
  left_part All = All
  left_part (AtMost hi) = All
  left_part (AtLeast lo) = AtLeast lo
  left_part (Between lo hi) = AtLeast lo
  left_part (Below hi) = All
  left_part (Above lo) = Above lo

  -- what a range is to the keys greater than one that lies in it
  abbrev pub right_part : KeyRange K → KeyRange K
  right_part All = All
  right_part (AtMost hi) = AtMost hi
  right_part (AtLeast lo) = All
  right_part (Between lo hi) = AtMost hi
  right_part (Below hi) = Below hi
  right_part (Above lo) = All

  -- the most steps that the fold of a range takes: none for a stored fold, else one path and one block for each end
  abbrev pub fold_cost : KeyRange K → ℕ → ℕ → ℕ
  fold_cost All height block = 0
  fold_cost (AtMost hi) height block = 4 * height + 6 * block
  fold_cost (AtLeast lo) height block = 4 * height + 6 * block
  fold_cost (Between lo hi) height block = 8 * height + 12 * block
  fold_cost (Below hi) height block = 4 * height + 6 * block
  fold_cost (Above lo) height block = 4 * height + 6 * block

  -- the most images that the projection of a range takes: one for a stored fold, else those beside one path and of one block for each end
  abbrev pub image_cost : KeyRange K → ℕ → ℕ → ℕ
  image_cost All height block = 1
  image_cost (AtMost hi) height block = 2 * height + 2 * block + 1
  image_cost (AtLeast lo) height block = 2 * height + 2 * block + 1
  image_cost (Between lo hi) height block = 4 * height + 4 * block + 1
  image_cost (Below hi) height block = 2 * height + 2 * block + 1
  image_cost (Above lo) height block = 2 * height + 2 * block + 1

  -- how many comparisons show that a range ends before a key
  abbrev pub end_tests : KeyRange K → ℕ
  end_tests All = 0
  end_tests (AtMost hi) = 1
  end_tests (AtLeast lo) = 0
  end_tests (Between lo hi) = 1
  end_tests (Below hi) = 1
  end_tests (Above lo) = 0

  -- how many comparisons show that a range begins after a key
  abbrev pub begin_tests : KeyRange K → ℕ
  begin_tests All = 0
  begin_tests (AtMost hi) = 0
  begin_tests (AtLeast lo) = 1
  begin_tests (Between lo hi) = 1
  begin_tests (Below hi) = 0
  begin_tests (Above lo) = 1

  -- the most comparisons of keys that the projection of a range takes: on one path and in one block for each end
  abbrev pub compare_cost : KeyRange K → ℕ → ℕ → ℕ
  compare_cost All height block = 0
  compare_cost (AtMost hi) height block = height + 2 * block
  compare_cost (AtLeast lo) height block = height + 2 * block
  compare_cost (Between lo hi) height block = 2 * height + 4 * block
  compare_cost (Below hi) height block = height + 2 * block
  compare_cost (Above lo) height block = height + 2 * block

  -- the most steps that the projection of a range takes, where `most` are enough for an image
  abbrev pub span_cost : KeyRange K → ℕ → ℕ → ℕ → ℕ
  span_cost range height block most = image_cost range height block * most + compare_cost range height block
