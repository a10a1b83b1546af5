-- The sum in the fold of a map of weights.
use Rattle.std.proofs.Common.{◌≡◌, ℕ, ◌+◌, ◌-◌, ◌^◌, List, [], ◌∷◌, min, refl, arith}
use Rattle.std.proofs.lemmas.List.Sums.{sum_by-cons}
use Rattle.map_model.specs.Fold.{fold_of}
use Rattle.aug_monoid.specs.declared.pair64.Pair64.{Pair64}
use Rattle.aug_monoid.specs.Totals.{totals_base, totals_unit, totals_combine}
use Rattle.range_tree.specs.Points.{weight_sum}

pub sum-fold : (m : List (Pair64 × ℕ)) → (fold_of (λ (_ : Pair64) (v : ℕ). totals_base v) totals_unit totals_combine m).sum ≡ min (weight_sum m) (2 ^ 64 - 1)
sum-fold [] = refl
sum-fold (e ∷ m) = let rest = sum-fold m in let cons : weight_sum (e ∷ m) ≡ e.1 + weight_sum m = sum_by-cons (λ (e : Pair64 × ℕ). e.1) e m in omega (arith, rest, cons)
