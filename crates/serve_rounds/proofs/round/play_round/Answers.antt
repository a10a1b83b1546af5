use Rattle.std.proofs.Common.{◌∙◌, subst, sym}
use Rattle.batch_store.specs.Round.{AreCallersOf}
use Rattle.serve_rounds.proofs.OneRound.{still_callers, played_lent}
use Rattle.serve_rounds.proofs.round.play_round.Goals as goal

pub end_round-requires-after_bounds : goal.end_round-requires-after_bounds
end_round-requires-after_bounds g c κs within =
    subst (λ l. AreCallersOf c.in_ok-store.store l) (sym (c.deref_mut.ensures.value ∙ c.in_ok-callers.ensures.callers))
    (still_callers g.S.State.step g.A.Answers.answer_of c.args.records.now c.args.played.store c.in_ok-store.store c.args.played.callers.items c.in_ok-store.ran.items
    c.requires.between c.in_ok-store.ensures.ran c.in_ok-store.ensures.store.0)

pub returns : goal.returns
returns g c =
    played_lent g.S.State.step g.A.Answers.answer_of c.args.records.now c.args.played.store c.in_ok-store.store c.end_round.new.self
    c.args.played.callers.items c.in_ok-callers.callers.items c.deref_mut.result.now c.end_round.new.callers
    c.in_ok-store.ran.items c.in_ok-callers.lines.items c.deref_mut-2.result.now c.in_ok-callers.callers.len c.args.played.text.items c.weave.new.text.items
    c.requires.between c.requires.callers c.in_ok-store.ensures.ran c.in_ok-store.ensures.store
    c.in_ok-callers.ensures.callers c.deref_mut.ensures.value c.deref_mut.ensures.len c.end_round.ensures.keeps c.in_ok-end_round.ensures.ok
    c.in_ok-callers.ensures.lines c.deref_mut-2.ensures.value c.in_ok-weave.ensures
