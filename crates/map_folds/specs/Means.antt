-- A sum and how many numbers it is of.
use Rattle.std.specs.Prelude.{ℕ, ◌+◌, ◌-◌, ◌^◌, ◌≤◌, min}
use Rattle.std.proofs.Common.{ap₂, arith}
use Rattle.map_model.specs.Fold.{IsMonoidOver}
use Rattle.map_folds.specs.declared.mean.SumCount.{SumCount}

abbrev pub means : ℕ → ℕ → SumCount
means sum count = record { sum = sum; count = count }

-- the sum has 128 bits and the count 64
abbrev pub MeansFit : SumCount → Type 0
MeansFit m = (m.sum ≤ 2 ^ 128 - 1) × (m.count ≤ 2 ^ 64 - 1)

-- one number, brought into 128 bits
abbrev pub means_base : ℕ → SumCount
means_base val = means (min val (2 ^ 128 - 1)) 1

abbrev pub means_combine : SumCount → SumCount → SumCount
means_combine a b = means (min (a.sum + b.sum) (2 ^ 128 - 1)) (min (a.count + b.count) (2 ^ 64 - 1))

pub means_monoid : IsMonoidOver MeansFit (means 0 0) means_combine
means_monoid = record {
  unit_fits = (omega arith, omega arith);
  combine_fits = λ a b f g. (omega arith, omega arith);
  left_unit = λ a f. ap₂ means (omega arith) (omega arith);
  right_unit = λ a f. ap₂ means (omega arith) (omega arith);
  assoc = λ a b c f g h. ap₂ means (omega arith) (omega arith);
}

pub means_base_fits : (val : ℕ) → MeansFit (means_base val)
means_base_fits val = (omega arith, omega arith)
