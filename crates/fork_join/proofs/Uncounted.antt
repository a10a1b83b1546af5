-- Work whose steps are not counted.
use Rattle.std.proofs.Common.{ℕ, ◌≡◌, ◌+◌, ◌≤◌, Result, Ok, Err, IfOk, refl, arith}
use Rattle.fork_join.specs.declared.work.Opened.{Opened}
use Rattle.fork_join.specs.declared.work.Opened.TheVariants.{Done, Split}
use Rattle.fork_join.specs.Openings.{left_to_do}

module _ {P M O : Type 0} where
  nothing_left : (opened : Opened P M O) → left_to_do (λ _. 0) 0 opened ≡ 0
  nothing_left (Done _) = refl
  nothing_left (Split _ _ _) = refl

  -- what an opening leaves to do
  pub opening_uncounted : {E : Type 0} (result : Result (Opened P M O) E) (steps : ℕ) → IfOk result (λ opened. steps + left_to_do (λ _. 0) 0 opened ≤ steps + 0)
  opening_uncounted (Ok opened) steps = omega (arith, nothing_left opened)
  opening_uncounted (Err _) steps = tt
