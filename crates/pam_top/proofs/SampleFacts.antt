-- The pairs of a sample, one after another.
use Rattle.std.proofs.Common.{◌≡◌, ◌∙◌, ◌+◌, ◌*◌, ◌++◌, ◌∷◌, [], ℕ, zero, suc, map, refl, ap, arith}
use Rattle.std.specs.List.{range_with_len}
use Rattle.std.proofs.lemmas.List.FromFn.{map-range_with_len_more}
use Rattle.pam_top.specs.Sample.{next_number, number_at, pair_at}

-- the numbers after one of the generator's are its later ones
later_number : (x a b : ℕ) → number_at (number_at x a) b ≡ number_at x (a + b)
unfolding number_at
later_number x a zero = let e : a + zero ≡ a = omega arith in rw e refl
later_number x a (suc b) = let e : a + suc b ≡ suc (a + b) = omega arith in rw e (ap next_number (later_number x a b))

pub number-more : (x i : ℕ) → number_at (number_at x (2 * i)) 2 ≡ number_at x (2 * (i + 1))
number-more x i = later_number x (2 * i) 2 ∙ (let e : 2 * i + 2 ≡ 2 * (i + 1) = omega arith in ap (number_at x) e)

pub pairs-more : (size x i : ℕ) → map (pair_at size x) (range_with_len 0 i) ++ pair_at size (number_at x (2 * i)) 0 ∷ [] ≡ map (pair_at size x) (range_with_len 0 (i + 1))
pairs-more size x i = rw (later_number x (2 * i) 1, later_number x (2 * i) 2, map-range_with_len_more (pair_at size x) 0 i i (omega arith)) refl
