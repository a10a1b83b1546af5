use Rattle.std.proofs.Common.{[], ◌∷◌, sym}
use Rattle.std.proofs.lemmas.List.{append-nil}
use Rattle.serve_callers.proofs.Runs.{run_batch, run_read}
use Rattle.serve_callers.proofs.calling.run_record.Goals as goal

pub returns-in_ok-submit-in-Submit : goal.returns-in_ok-submit-in-Submit
returns-in_ok-submit-in-Submit g c = (
  [],
  sym (append-nil c.args.lines.now),
  run_batch g.S.State.step g.A.Answers.answer_of c.args.«record».now _ c.args.caller.now c.submit.new.caller c.in-Submit.is c.submit.ensures.same c.submit.ensures.reader c.in_ok-submit-in-Submit.ensures.sent,
)

pub returns-in_ok-push-in-Read : goal.returns-in_ok-push-in-Read
returns-in_ok-push-in-Read g c = (
  c.in_ok-line-in-Read.line.items ∷ [],
  c.in_ok-push-in-Read.ensures,
  run_read g.S.State.step g.A.Answers.answer_of c.args.«record».now _ c.args.caller.now c.read.new.caller c.in_ok-line-in-Read.line.items c.in-Read.is c.read.ensures.same c.read.ensures.sent c.read.ensures.seen
      c.in_ok-line-in-Read.ensures.line,
)
