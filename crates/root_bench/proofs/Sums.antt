-- Sums of numbers with saturation.
use Rattle.std.proofs.Common.{◌≡◌, ℕ, ◌-◌, ◌^◌, ◌≤◌, List, [], ◌∷◌, arith}
use Rattle.std.proofs.lemmas.Grind.{common_steps}
use Rattle.std.specs.Prelude.{fold}
use Rattle.root_bench.specs.Sums.{sum_up}

-- numbers are added to a total as their sum is
pub sum_up-fold : (total : ℕ) (numbers : List ℕ) → total ≤ 2 ^ 64 - 1 → fold sum_up total numbers ≡ sum_up total (fold sum_up 0 numbers)
sum_up-fold total [] h = grind (arith, common_steps)
sum_up-fold total (x ∷ xs) h =
    let here = sum_up-fold (sum_up total x) xs (grind (arith, common_steps)) in
    let there = sum_up-fold (sum_up 0 x) xs (grind (arith, common_steps)) in
    grind (arith, common_steps)
