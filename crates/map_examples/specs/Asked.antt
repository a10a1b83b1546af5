-- The laws of what the examples ask of values.
use Rattle.std.specs.Prelude.{◌≡◌, ℕ, ◌||◌, max, nat_le}
use Rattle.std.proofs.Common.{arith}
use Rattle.aug_monoid.specs.Totals.{TotalsFit, totals_combine}
use Rattle.aug_monoid.specs.declared.totals.Totals.{Totals}
use Rattle.map_model.specs.Fold.{IsMonoidOver, PassesEither}

pub largest_monoid : IsMonoidOver (λ (n : ℕ). Unit {0}) 0 (λ a b. max a b)
largest_monoid = record {
  unit_fits = tt;
  combine_fits = λ a b f g. tt;
  left_unit = λ a f. omega arith;
  right_unit = λ a f. omega arith;
  assoc = λ a b c f g h. omega arith;
}

-- a maximum is at least a number where one of the two is
at_least_max : (t a b : ℕ) → nat_le t (max a b) ≡ (nat_le t a || nat_le t b)
at_least_max t a b = grind arith

pub passes_either : (t : ℕ) → PassesEither TotalsFit totals_combine (λ (x : Totals). nat_le t x.greatest)
passes_either t a b f g = at_least_max t a.greatest b.greatest
