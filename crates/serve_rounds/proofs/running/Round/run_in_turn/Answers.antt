use Rattle.std.proofs.Common.{[], ◌∷◌, ◌++◌, sym, subst}
use Rattle.serve_rounds.specs.Rounds.{HaveRun}
use Rattle.serve_rounds.proofs.HaveRuns.{ran_one, ran_both}
use Rattle.serve_rounds.proofs.running.Round.run_in_turn.Goals as goal

pub loop-caller-preserved : goal.loop-caller-preserved
loop-caller-preserved g c =
    let step = g.S.State.step in
    let answer = g.A.Answers.answer_of in
    let records = c.args.self.now.records.now in
    let callers = c.loop-caller.yielded in
    let one = c.in-Some.caller in
    let ran = c.in_ok-run_one.field-0 in
    subst (λ items. HaveRun step answer records (callers ++ one ∷ []) items) (sym c.in_ok-push.ensures.items)
    (ran_both step answer records callers (one ∷ []) c.loop-caller.ran.items (ran ∷ []) c.loop-caller.invariant (ran_one step answer records one ran c.in_ok-run_one.ensures))
