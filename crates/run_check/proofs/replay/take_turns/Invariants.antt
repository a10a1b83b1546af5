use Rattle.std.proofs.Common.{◌≡◌, ◌≤◌, ◌<◌, ℕ, length, take, get_or}
use Rattle.versions.specs.History.{after}
use Rattle.run_check.specs.declared.turns.Turn.{Turn}
use Rattle.run_check.specs.Reading.{answer_to, answers_told}
use Rattle.run_check.specs.Turns.{HaveAnswers}
use Rattle.run_check.proofs.replay.take_turns.Given as goal

abbrev pub invariant-loop-turn : goal.invariant-loop-turn
invariant-loop-turn g l = record {
  most : l.standing.number ≤ length l.batches;
  state : l.standing.state ≡ after g.S.State.step l.fn.base (take l.standing.number l.batches);
  reached : (j : ℕ) (d : Turn) → l.turn-index ≤ j → j < length l.turns → l.standing.number ≤ (get_or l.turns j d).number;
  answers : HaveAnswers (answer_to g.S.State.step g.A.Answers.answer_of l.fn.base l.batches) l.reads (take l.turn-index l.turns) (answers_told l.replies);
}
