use Rattle.std.proofs.Common.{◌≡◌, ◌++◌, take, ap, ◌∙◌, subst}
use Rattle.std.specs.Prelude.{IfOk}
use Rattle.std.proofs.lemmas.List.{take-append-drop}
use Rattle.std.proofs.lemmas.Result.{IfOk-weaker}
use Rattle.serve_rounds.specs.Rounds.{HaveRun}
use Rattle.serve_rounds.proofs.HaveRuns.{ran_halves}
use Rattle.serve_rounds.proofs.running.+run_callers.Goals as goal

pub returns : goal.returns
returns g n c =
    let step = g.S.State.step in
    let answer = g.A.Answers.answer_of in
    let records = c.args.round.now.records.now in
    let front = c.split_off.new.self.items in
    let back = c.in_ok-back.back.items in
    let cut : front ++ back ≡ c.args.callers.items =
    ap (λ l. l ++ back) c.in_ok-back.ensures.items ∙ ap (λ l. take c.seam.result c.args.callers.items ++ l) c.in_ok-back.ensures.tail ∙ take-append-drop c.seam.result c.args.callers.items in
    let near : HaveRun step answer records front c.in_ok-front.field-0.items = subst (λ r. IfOk r (λ ran. HaveRun step answer records front ran.items)) c.in_ok-front.was c.join-front.ensures.first in
    let far : HaveRun step answer records back c.in_ok-back-2.field-0.items = subst (λ r. IfOk r (λ ran. HaveRun step answer records back ran.items)) c.in_ok-back-2.was c.join-front.ensures.second in
    IfOk-weaker c.joined.result _ _ (λ all is. ran_halves step answer records c.args.callers.items front back c.in_ok-front.field-0.items c.in_ok-back-2.field-0.items all.items cut near far is) c.joined.ensures
