use Rattle.std.proofs.Common.{◌≡◌, map, take}
use Rattle.run_check.proofs.NeverFalling.{newest, NeverFall}
use Rattle.run_check.proofs.points.rounds_rise.Given as goal

abbrev pub invariant-loop-p : goal.invariant-loop-p
invariant-loop-p g l = record { rise : NeverFall (λ p. p.round) (take l.p-index l.ordered); last_is : l.last ≡ newest 0 (map (λ p. p.round) (take l.p-index l.ordered)) }
