use Rattle.std.proofs.Common.{◌≤◌, length}
use Rattle.serve_rounds.proofs.running.Round.count.Given as goal

abbrev pub invariant-loop-caller : goal.invariant-loop-caller
invariant-loop-caller g l =
    (goal.iterator-loop-caller g).can_next l.caller-iterator
    × (goal.iterator-loop-caller g).is_finite l.caller-iterator
    × (l.count ≤ length l.yielded)
