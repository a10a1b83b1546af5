use Rattle.std.proofs.Common.{◌≡◌, ℕ, List, [], ◌∷◌, ◌++◌, sym, ap, ◌∙◌, subst, arith, append_assoc}
use Rattle.std.proofs.lemmas.List.{append-nil}
use Rattle.serve_text.specs.Records.{records_of}
use Rattle.serve_callers.specs.Running.{HasRun}
use Rattle.serve_callers.proofs.Runs.{run_none, run_more}
use Rattle.serve_callers.proofs.calling.run_caller.Goals as goal

pub loop-record-init : goal.loop-record-init
loop-record-init g c = ([], sym (append-nil c.args.lines.now), run_none g.S.State.step g.A.Answers.answer_of c.args.caller.now)

pub loop-record-preserved : goal.loop-record-preserved
loop-record-preserved g c =
    let old = c.loop-record.invariant in
    let new = c.in_ok-run_own.ensures in
    let number : c.number-number.result ≡ c.args.caller.now.number = c.number-number.ensures in (
      old.0 ++ new.0,
      new.1 ∙ ap (λ (l : List (List ℕ)). l ++ new.0) old.1 ∙ append_assoc c.args.lines.now old.0 new.0,
      run_more g.S.State.step g.A.Answers.answer_of c.args.caller.now.number c.args.records.now c.loop-record.record-index c.record-item.result c.args.caller.now c.loop-record.caller c.run_own.new.caller old.0 new.0
          (omega arith) c.record-item.is old.2
          (subst (λ (n : ℕ). HasRun g.S.State.step g.A.Answers.answer_of (records_of n (c.record-item.result ∷ [])) c.loop-record.caller c.run_own.new.caller new.0) number new.2),
    )
