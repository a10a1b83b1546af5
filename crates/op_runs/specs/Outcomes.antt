-- What operations on one key come to, and what that leaves of the key's value.
use Rattle.std.specs.Prelude.{ℕ, ◌+◌, ◌-◌, ◌^◌, min, Option, None, Some}
use Rattle.op_runs.specs.declared.outcome.Outcome.{Outcome}
use Rattle.op_runs.specs.declared.outcome.Outcome.TheVariants.{Nothing, Set, Gone, Added}

-- a sum that stops at the greatest number of 64 bits
abbrev pub sat_sum : ℕ → ℕ → ℕ
sat_sum a b = min (a + b) (2 ^ 64 - 1)

-- an outcome and then a later one
abbrev pub followed_by : Outcome → Outcome → Outcome
followed_by first Nothing = first
followed_by first (Set val) = Set val
followed_by first Gone = Gone
followed_by Nothing (Added val) = Added val
followed_by (Set old) (Added val) = Set (sat_sum old val)
followed_by Gone (Added val) = Set val
followed_by (Added old) (Added val) = Added (sat_sum old val)

-- the value of a key after an outcome
abbrev pub left_by : Outcome → Option ℕ → Option ℕ
left_by Nothing value = value
left_by (Set val) value = Some val
left_by Gone value = None
left_by (Added val) None = Some val
left_by (Added val) (Some old) = Some (sat_sum old val)
