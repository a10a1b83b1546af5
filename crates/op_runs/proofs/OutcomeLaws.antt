-- What outcomes leave, one after another.
use Rattle.std.proofs.Common.{◌≡◌, ℕ, Option, Some, None, refl, ap, arith}
use Rattle.op_runs.specs.declared.outcome.Outcome.{Outcome}
use Rattle.op_runs.specs.declared.outcome.Outcome.TheVariants.{Nothing, Set, Gone, Added}
use Rattle.op_runs.specs.Outcomes.{followed_by, left_by, sat_sum}

-- nothing before an outcome
pub Nothing-followed_by : (o : Outcome) → followed_by Nothing o ≡ o
Nothing-followed_by Nothing = refl
Nothing-followed_by (Set val) = refl
Nothing-followed_by Gone = refl
Nothing-followed_by (Added val) = refl

-- sums that stop are associative
pub sat_sum-assoc : (a b c : ℕ) → sat_sum a (sat_sum b c) ≡ sat_sum (sat_sum a b) c
sat_sum-assoc a b c = omega arith

-- an outcome and a later one leave what the later one leaves of what the first one leaves
pub left_by-followed_by : (first later : Outcome) (value : Option ℕ) → left_by (followed_by first later) value ≡ left_by later (left_by first value)
left_by-followed_by first Nothing value = refl
left_by-followed_by first (Set val) value = refl
left_by-followed_by first Gone value = refl
left_by-followed_by Nothing (Added val) value = refl
left_by-followed_by (Set old) (Added val) value = refl
left_by-followed_by Gone (Added val) value = refl
left_by-followed_by (Added old) (Added val) None = refl
left_by-followed_by (Added old) (Added val) (Some value) = ap Some (sat_sum-assoc value old val)
