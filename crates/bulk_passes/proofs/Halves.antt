-- What a reduction of so many entries of a walk by halves costs, and what it says where a half refuses.
use Rattle.std.proofs.Common.{◌≡◌, ℕ, ◌+◌, ◌-◌, ◌/◌, ◌<◌, ◌≤◌, arith}
use Rattle.std.specs.Prelude.{Result, Ok, Err, IfOk, IsErrAnd}

-- a refusal has nothing of what success has
pub refused : {T E : Type 0} (r : Result T E) (P : T → Type 0) (Q : E → Type 0) → IsErrAnd r Q → IfOk r P
refused (Ok x) P Q is = absurd is
refused (Err y) P Q is = tt

-- ---- a fold by halves of more entries than one run, which begins at `start`

pub half_fewer : (count : ℕ) → 16 < count → count / 2 < count
half_fewer count many = omega (arith, many)

pub half_some : (count : ℕ) → 16 < count → 0 < count / 2
half_some count many = omega (arith, many)

pub half_inside : (at count all : ℕ) → at + count ≤ all → at + count / 2 ≤ all
half_inside at count all inside = omega (arith, inside)

pub rest_fewer : (count : ℕ) → 16 < count → count - count / 2 < count
rest_fewer count many = omega (arith, many)

pub rest_some : (count : ℕ) → 16 < count → 0 < count - count / 2
rest_some count many = omega (arith, many)

pub rest_inside : (at count middle all : ℕ) → middle ≡ at + count / 2 → at + count ≤ all → middle + (count - count / 2) ≤ all
rest_inside at count middle all moved inside = omega (arith, moved, inside)

pub front_cost : (count start new : ℕ) → new < start + count / 2 → new < start + count
front_cost count start new front = omega (arith, front)

pub back_cost : (count start middle new : ℕ) → middle < start + count / 2 → new < middle + (count - count / 2) → new < start + count
back_cost count start middle new front back = omega (arith, front, back)

pub halves_cost : (count start middle end new : ℕ) → middle < start + count / 2 → end < middle + (count - count / 2) → new ≡ end + 1 → new < start + count
halves_cost count start middle end new front back last = omega (arith, front, back, last)

pub halves_moved : (count start middle end : ℕ) → middle ≡ start + count / 2 → end ≡ middle + (count - count / 2) → end ≡ start + count
halves_moved count start middle end front back = omega (arith, front, back)
