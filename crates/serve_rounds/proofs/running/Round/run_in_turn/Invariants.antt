use Rattle.serve_rounds.specs.Rounds.{HaveRun}
use Rattle.serve_rounds.proofs.running.Round.run_in_turn.Given as goal

abbrev pub invariant-loop-caller : goal.invariant-loop-caller
invariant-loop-caller g l = HaveRun g.S.State.step g.A.Answers.answer_of l.self.records.now l.yielded l.ran.items
