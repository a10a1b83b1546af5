-- A test of the greatest of a map's values.
use Rattle.std.proofs.Common.{◌≡◌, ℕ, ◌||◌, max, nat_le}
use Rattle.aug_monoid.specs.Totals.{TotalsFit, totals_combine}
use Rattle.aug_monoid.specs.declared.totals.Totals.{Totals}
use Rattle.map_model.specs.Fold.{PassesEither}
use Rattle.std.proofs.Common.{arith}

-- a maximum is at least a number where one of the two is
at_least_max : (t a b : ℕ) → nat_le t (max a b) ≡ (nat_le t a || nat_le t b)
at_least_max t a b = grind arith

pub either_passes : (t : ℕ) → PassesEither TotalsFit totals_combine (λ (x : Totals). nat_le t x.greatest)
either_passes t a b f g = at_least_max t a.greatest b.greatest
