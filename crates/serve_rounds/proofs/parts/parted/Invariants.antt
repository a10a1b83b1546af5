use Rattle.std.proofs.Common.{◌≡◌, map}
use Rattle.serve_rounds.proofs.parts.parted.Given as goal

abbrev pub invariant-loop-one : goal.invariant-loop-one
invariant-loop-one g l = (l.callers.items ≡ map (λ one. one.0) l.yielded) × (l.lines.items ≡ map (λ one. one.1) l.yielded)
