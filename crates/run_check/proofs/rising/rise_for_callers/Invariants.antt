use Rattle.run_check.proofs.NeverFalling.{RisesTo}
use Rattle.run_check.proofs.rising.rise_for_callers.Given as goal

abbrev pub invariant-loop-step : goal.invariant-loop-step
invariant-loop-step l = RisesTo l.callers l.step-index l.steps l.last.items
