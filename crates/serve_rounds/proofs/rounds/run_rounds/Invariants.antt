use Rattle.std.proofs.Common.{length}
use Rattle.serve_rounds.proofs.UnderWay.{IsUnderWay}
use Rattle.serve_rounds.proofs.rounds.run_rounds.Given as goal

abbrev pub invariant-loop-record : goal.invariant-loop-record
invariant-loop-record g l =
    IsUnderWay g.S.State.step g.A.Answers.answer_of l.records l.left l.initial.played.store l.played.store l.initial.played.callers.items l.played.callers.items l.played.text.items

abbrev pub decreases-loop-record : goal.decreases-loop-record
decreases-loop-record g l = length l.left
