use Rattle.std.proofs.Common.{ap, subst, ◌∙◌}
use Rattle.std.specs.Prelude.{◌≡◌, ◌↔◌, IfOk, IsTrue}
use Rattle.versions.specs.History.{after}
use Rattle.run_check.proofs.States.{between_rest}
use Rattle.run_check.proofs.replay.ends_right.Goals as goal

pub returns : goal.returns
returns g c =
    let start = c.args.standing in
    let state = c.in_ok-all.ensures.state ∙ ap (after g.S.State.step start.state) (between_rest start.number c.args.batches.now) in
    subst (λ (s : g.row.S.Denot). IfOk c.is_last_line.result (λ right. IsTrue right ↔ (c.args.last.now ≡ g.A.Answers.last_of s))) state c.is_last_line.ensures
