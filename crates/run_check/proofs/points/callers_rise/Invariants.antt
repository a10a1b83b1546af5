use Rattle.std.proofs.Common.{◌≡◌, map, take}
use Rattle.run_check.proofs.points.callers_rise.Given as goal

abbrev pub invariant-loop-p : goal.invariant-loop-p
invariant-loop-p g l = l.steps.items ≡ map (λ p. record { caller = p.entry.caller; number = p.entry.tag }) (take l.p-index l.ordered)
