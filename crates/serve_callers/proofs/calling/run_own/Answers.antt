use Rattle.std.proofs.Common.{[], sym}
use Rattle.std.proofs.lemmas.List.{append-nil}
use Rattle.serve_callers.proofs.Runs.{run_other}
use Rattle.serve_callers.proofs.calling.run_own.Goals as goal

pub returns-then-record-number : goal.returns-then-record-number
returns-then-record-number g c = (
  [],
  sym (append-nil c.args.lines.now),
  run_other g.S.State.step g.A.Answers.answer_of c.args.number c.args.«record».now c.args.caller.now c.if-record-number.true,
)
