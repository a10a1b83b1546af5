use Rattle.std.proofs.Common.{◌≤◌, length, filter, take}
use Rattle.std.specs.Prelude.{All, nat_lt, nat_le}
use Rattle.run_check.proofs.points.are_of_their_rounds.Given as goal

abbrev pub invariant-loop-read : goal.invariant-loop-read
invariant-loop-read g l =
    All (λ a. (length (filter (λ p. nat_lt p.round a.asked.round) l.placed) ≤ a.number) × (a.number ≤ length (filter (λ p. nat_le p.round a.asked.round) l.placed))) (take l.read-index l.reads)
