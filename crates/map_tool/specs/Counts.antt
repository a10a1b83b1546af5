-- Counts, combined with saturation.
use Rattle.std.proofs.Common.{ℕ, ◌+◌, ◌-◌, ◌^◌, ◌≤◌, Bool, true, false, cond, min, arith}
use Rattle.map_model.specs.Fold.{IsMonoidOver}

-- a number of 64 bits
abbrev pub CountFits : ℕ → Type 0
CountFits n = n ≤ 2 ^ 64 - 1

pub count_fits : (b : Bool) → CountFits (cond b 1 0)
count_fits true = omega arith
count_fits false = omega arith

pub count_monoid : IsMonoidOver CountFits 0 (λ a b. min (a + b) (2 ^ 64 - 1))
count_monoid = record {
  unit_fits = omega arith;
  combine_fits = λ a b f g. omega arith;
  left_unit = λ a f. omega arith;
  right_unit = λ a f. omega arith;
  assoc = λ a b c f g h. omega arith;
}
