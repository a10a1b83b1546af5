-- Sums are alike in either order.
use Rattle.std.specs.Prelude.{◌+◌, ◌-◌, ◌^◌, ◌≤◌, min}
use Rattle.std.proofs.Common.{arith}
use Rattle.aug_monoid.specs.Commuting.{IsCommutativeOver}

pub sums_commute : IsCommutativeOver (λ n. n ≤ 2 ^ 64 - 1) (λ a b. min (a + b) (2 ^ 64 - 1))
sums_commute a b f g = omega arith
