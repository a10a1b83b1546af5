use Rattle.std.proofs.Common.{sym, ap, ◌∙◌}
use Rattle.versions.specs.History.{after}
use Rattle.serve_text.specs.Records.{Answered}
use Rattle.run_text.specs.Forms.{Told}
use Rattle.run_check.specs.Reading.{between}
use Rattle.run_check.proofs.replay.take_turn.Goals as goal

pub returns-then-branch : goal.returns-then-branch
returns-then-branch g c =
    let standing = c.args.standing in
    let state = c.in_ok-next.ensures.state ∙ ap (λ (a : Answered g.row.A-Query.Denot). after g.S.State.step standing.state (between standing.number a.number c.args.batches.now)) c.read.view_is in
    let own = sym (ap (λ (t : Told). t.answer) c.reply.view_is) ∙ c.in_ok-is_answer.ensures.0 c.if-branch.true ∙ ap (λ (a : Answered g.row.A-Query.Denot). g.A.Answers.answer_of c.in_ok-next.next.state a.asked.query) c.read.view_is in
    (c.in_ok-next.ensures.number ∙ ap (λ (a : Answered g.row.A-Query.Denot). a.number) c.read.view_is, state, own)
