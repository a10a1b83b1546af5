use Rattle.std.proofs.Common.{◌≡◌, false, true, ap, sym, ◌∙◌}
use Rattle.std.proofs.lemmas.Result.{IfOk-weaker}
use Rattle.run_check.proofs.States.{to_the_end}
use Rattle.run_check.proofs.replay.are_right.Goals as goal

pub returns-in_default : goal.returns-in_default
returns-in_default g c =
    let other = rw c.in_default.is at c.in_ok-standing.ensures in (
      λ wrong. absurd (let z : false ≡ true = wrong in cc),
      λ right. absurd (other right.answers),
    )

pub ends_right-requires-after_bounds : goal.ends_right-requires-after_bounds
ends_right-requires-after_bounds g c = λ lives bounds. let found = rw c.in-Some.is at c.in_ok-standing.ensures in found.0

pub returns : goal.returns
returns g c =
    let found = rw c.in-Some.is at c.in_ok-standing.ensures in
    let standing = c.in-Some.standing in
    let end = ap g.A.Answers.last_of (to_the_end g.S.State.step c.args.base standing.state c.args.batches.now standing.number found.1) in
    IfOk-weaker c.ends_right.result _ _ (λ right tells. (λ yes. record { answers = found.2; ends = tells.0 yes ∙ end }, λ all. tells.1 (all.ends ∙ sym end))) c.ends_right.ensures
