use Rattle.std.proofs.Common.{ℕ, List, inl, length, refl, sym, ap, subst, ◌∙◌, rules}
use Rattle.std.proofs.lemmas.List.{length-map}
use Rattle.run_text.specs.Forms.{HasForm, Tells, Told, told_text}
use Rattle.run_check.specs.Reading.{asked_in, numbers_in, numbers_told}
use Rattle.run_check.specs.Verdicts.{IsVerdict}
use Rattle.run_check.specs.declared.verdict.Verdict.TheVariants.{No}
use Rattle.run_check.proofs.Exactly.{the_verdict}
use Rattle.run_check.proofs.Forming.{form_count}
use Rattle.run_check.proofs.Telling.{is_told}
use Rattle.run_check.proofs.checking.check.Goals as goal

pub returns-in_default : goal.returns-in_default
returns-in_default g c =
    let places = c.as_slice.ensures.value ∙ c.in_ok-places.ensures in
    let none = rw c.in_default.is at c.in_ok-told.ensures in
    let answers = g.met.A.Answers g.world.𝓛 g.world.𝓜 g.world.𝓡 ((λ s x. x), (λ x. x), (λ x. x), λ x. x) in
    the_verdict g.S.State.step g.A.Answers.answer_of g.A.Answers.last_of c.args.base c.args.callers c.args.records.now c.requires.numbered c.requires.rounds c.args.text.now answers.in_line answers.last_line (search rules) (No 0)
    (inl (refl, λ reads order is. none (numbers_in reads) order (subst (λ (l : List ℕ). HasForm l (numbers_in reads) order c.args.text.now) (sym places) is.form)))

pub readings-requires : goal.readings-requires
readings-requires g c =
    let places = c.as_slice.ensures.value ∙ c.in_ok-places.ensures in
    let told = c.in-Some.told in
    let tells = rw c.in-Some.is at c.in_ok-told.ensures in
    ap length c.as_slice-2.ensures.value ∙ sym (length-map told.replies.items (λ (t : Told). t.number))
    ∙ form_count c.as_slice.result.now (numbers_told told.replies.items) told.order.items c.args.text.now tells.form ∙ ap length places

pub judged-requires-clause-numbered : goal.judged-requires-clause-numbered
judged-requires-clause-numbered g c = λ lives bounds. c.requires.numbered

pub judged-requires-clause-rounds : goal.judged-requires-clause-rounds
judged-requires-clause-rounds g c = λ lives bounds. c.requires.rounds

pub judged-requires-clause-asked : goal.judged-requires-clause-asked
judged-requires-clause-asked g c = λ lives bounds. ap asked_in c.as_slice-3.ensures.value ∙ c.in_ok-reads.ensures.asked

pub judged-requires-clause-numbers : goal.judged-requires-clause-numbers
judged-requires-clause-numbers g c = λ lives bounds. ap numbers_in c.as_slice-3.ensures.value ∙ c.in_ok-reads.ensures.numbers ∙ ap numbers_told c.as_slice-2.ensures.value

pub judged-requires-clause-told : goal.judged-requires-clause-told
judged-requires-clause-told g c = λ lives bounds.
    let places = c.as_slice.ensures.value ∙ c.in_ok-places.ensures in
    let told = c.in-Some.told in
    let tells = rw c.in-Some.is at c.in_ok-told.ensures in
    let text = is_told c.as_slice.result.now told.replies.items told.order.items told.last.now c.args.text.now tells in
    subst (λ (l : List ℕ). Tells l told.replies.items told.order.items told.last.now (told_text told.replies.items told.order.items told.last.now)) places
    (subst (Tells c.as_slice.result.now told.replies.items told.order.items told.last.now) text tells)

pub returns : goal.returns
returns g c =
    let told = c.in-Some.told in
    let tells = rw c.in-Some.is at c.in_ok-told.ensures in
    let text = is_told c.as_slice.result.now told.replies.items told.order.items told.last.now c.args.text.now tells in
    let answers = g.met.A.Answers g.world.𝓛 g.world.𝓜 g.world.𝓡 ((λ s x. x), (λ x. x), (λ x. x), λ x. x) in
    the_verdict g.S.State.step g.A.Answers.answer_of g.A.Answers.last_of c.args.base c.args.callers c.args.records.now c.requires.numbered c.requires.rounds c.args.text.now answers.in_line answers.last_line (search rules) c.in_ok-verdict.verdict
    (subst (λ (l : List ℕ). IsVerdict g.S.State.step g.A.Answers.answer_of g.A.Answers.last_of c.args.base c.args.records.now l c.in_ok-verdict.verdict) (sym text) c.in_ok-verdict.ensures)
