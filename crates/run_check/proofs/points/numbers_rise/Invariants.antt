use Rattle.std.proofs.Common.{◌≡◌, map, take}
use Rattle.run_check.proofs.points.numbers_rise.Given as goal

abbrev pub invariant-loop-read : goal.invariant-loop-read
invariant-loop-read g l = l.steps.items ≡ map (λ a. record { caller = a.asked.caller; number = a.number }) (take l.read-index l.reads)
