-- The greatest of a map's values, from the totals of its parts.
use Rattle.std.proofs.Common.{◌≡◌, ℕ, ◌-◌, ◌^◌, ◌≤◌, ◌||◌, max, nat_le, ap, arith}
use Rattle.std.specs.Ordering.{nat_cmp}
use Rattle.aug_monoid.specs.Totals.{TotalsFit, totals_base, totals_base_fits, totals_combine, totals_monoid, totals_unit}
use Rattle.aug_monoid.specs.declared.totals.Totals.{Totals}
use Rattle.map_model.specs.Fold.{IsMonoidOver, IsProjection, PassesEither}
use Rattle.map_model.proofs.Folds.{fold-append}

abbrev pub GreatestFits : ℕ → Type 0
GreatestFits n = n ≤ 2 ^ 64 - 1

pub greatest_fits : (t : Totals) → TotalsFit t → GreatestFits t.greatest
greatest_fits t fits = fits.1

pub greatest_monoid : IsMonoidOver GreatestFits 0 (λ a b. max a b)
greatest_monoid = record {
  unit_fits = omega arith;
  combine_fits = λ a b f g. omega arith;
  left_unit = λ a f. omega arith;
  right_unit = λ a f. omega arith;
  assoc = λ a b c f g h. omega arith;
}

pub greatest_projection : IsProjection nat_cmp (λ (key val : ℕ). totals_base val) totals_unit totals_combine (λ t. t.greatest) (λ a b. max a b)
greatest_projection l r s = ap (λ (t : Totals). t.greatest) (fold-append totals_monoid (λ key val. totals_base_fits val) l r)

-- a maximum is at least a number where one of the two is
at_least_max : (t a b : ℕ) → nat_le t (max a b) ≡ (nat_le t a || nat_le t b)
at_least_max t a b = grind arith

pub either_passes : (t : ℕ) → PassesEither TotalsFit totals_combine (λ (x : Totals). nat_le t x.greatest)
either_passes t a b f g = at_least_max t a.greatest b.greatest
