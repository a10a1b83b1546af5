-- The entries whose values are at least a number.
use Rattle.std.proofs.Common.{◌≡◌, ℕ, ◌-◌, ◌^◌, ◌<◌, List, [], ◌∷◌, min, nat_le, refl, arith}
use Rattle.aug_monoid.specs.Totals.{totals_base}
use Rattle.aug_monoid.specs.declared.totals.Totals.{Totals}
use Rattle.map_model.specs.Fold.{aug_filter}
use Rattle.map_tool.specs.Values.{values_from}

-- a value, brought into 64 bits, is at least a number of 64 bits where it is
at_least_base : (t v : ℕ) → t < 2 ^ 64 → nat_le t (min v (2 ^ 64 - 1)) ≡ nat_le t v
at_least_base t v h = grind arith

pub values_from_is : (t : ℕ) (m : List (ℕ × ℕ)) → t < 2 ^ 64 → aug_filter (λ (key val : ℕ). totals_base val) (λ (x : Totals). nat_le t x.greatest) m ≡ values_from m t
values_from_is t [] h = refl
values_from_is t (e ∷ m) h = rw (at_least_base t e.1 h, values_from_is t m h) refl
