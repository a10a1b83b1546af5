use Rattle.std.proofs.Common.{◌≡◌, ◌<◌, ◌≤◌, ℕ, length, get_or, take, refl, sym, ap, subst, arith, ◌∙◌}
use Rattle.std.proofs.lemmas.List.{get_or_default, get_or-map, length-map}
use Rattle.versions.specs.History.{after}
use Rattle.serve_text.specs.Records.{Answered}
use Rattle.run_text.specs.Forms.{Told}
use Rattle.run_check.specs.declared.turns.Turn.{Turn}
use Rattle.run_check.specs.Reading.{answer_to, answers_told, between}
use Rattle.run_check.proofs.States.{further}
use Rattle.run_check.proofs.TurnLists.{no_answers, one_more_answer, all_answers, wrong_answer}
use Rattle.run_check.proofs.replay.take_turns.Goals as goal

pub loop-turn-init : goal.loop-turn-init
loop-turn-init g c = record {
  most = omega arith;
  state = refl;
  reached = λ j d low h. omega arith;
  answers = no_answers (answer_to g.S.State.step g.A.Answers.answer_of c.args.base c.args.batches.now) c.args.reads.now (answers_told c.args.replies.now)
      (length-map c.args.replies.now (λ (t : Told). t.answer) ∙ c.requires.told);
}

pub loop-turn-preserved : goal.loop-turn-preserved
loop-turn-preserved g c =
    let i = c.loop-turn.turn-index in
    let turns = c.args.turns.now in
    let reads = c.args.reads.now in
    let told = c.args.replies.now in
    let batches = c.args.batches.now in
    let step = g.S.State.step in
    let own = answer_to step g.A.Answers.answer_of c.args.base batches in
    let inside : i < length turns = omega arith in
    let none : Turn = record { number = 0; at = 0 } in
    let t : Turn = get_or turns i none in
    let read = c.index-reads-turn.result in
    let reply = c.index-replies-turn.result in
    let turn = c.requires.turns.each i none inside in
    let number : read.number ≡ t.number = ap (λ (a : Answered g.row.A-Query.Denot). a.number) c.index-reads-turn.is ∙ turn.number_is read in
    let most : read.number ≤ length batches = subst (λ (a : Answered g.row.A-Query.Denot). a.number ≤ length batches) (sym c.index-reads-turn.is) (c.requires.most t.at read turn.within) in
    let old = c.loop-turn.standing in
    let next = c.in-Some.next in
    let found = rw c.in-Some.is at c.in_ok-next.ensures in
    let least : old.number ≤ read.number = let reached = c.loop-turn.invariant.reached i none (omega arith) inside in omega (arith, reached, number) in
    let state : after step old.state (between old.number read.number batches) ≡ after step c.args.base (take read.number batches) = further step c.args.base old.state batches old.number read.number least c.loop-turn.invariant.state in
    let next_state : next.state ≡ after step c.args.base (take read.number batches) = found.1 ∙ state in
    let placed : t.at < length told = omega (arith, turn.within, c.requires.told) in
    let answer : get_or (answers_told told) t.at reply.answer ≡ own read =
    get_or-map (λ (u : Told). u.answer) told t.at reply reply.answer placed ∙ sym (ap (λ (u : Told). u.answer) c.index-replies-turn.is) ∙ found.2
    ∙ ap (λ (s : g.row.S.Denot). g.A.Answers.answer_of s read.asked.query) next_state in
    record {
      most = omega (arith, most, found.0);
      state = next_state ∙ ap (λ (n : ℕ). after step c.args.base (take n batches)) (sym found.0);
      reached = λ j d low h.
          let rise = c.requires.turns.rise i j d (omega (arith, low)) h in
          let same = ap (λ (u : Turn). u.number) (get_or_default turns i d none inside) in
          omega (arith, rise, same, number, found.0);
      answers = one_more_answer own reads turns i t (answers_told told) read reply.answer inside (get_or_default turns i none t inside) turn.within c.index-reads-turn.is answer c.loop-turn.invariant.answers;
    }

pub returns-in_default : goal.returns-in_default
returns-in_default g c =
    let i = c.loop-turn.turn-index in
    let turns = c.args.turns.now in
    let reads = c.args.reads.now in
    let told = c.args.replies.now in
    let batches = c.args.batches.now in
    let step = g.S.State.step in
    let own = answer_to step g.A.Answers.answer_of c.args.base batches in
    let inside : i < length turns = omega arith in
    let none : Turn = record { number = 0; at = 0 } in
    let t : Turn = get_or turns i none in
    let read = c.index-reads-turn.result in
    let reply = c.index-replies-turn.result in
    let turn = c.requires.turns.each i none inside in
    let number : read.number ≡ t.number = ap (λ (a : Answered g.row.A-Query.Denot). a.number) c.index-reads-turn.is ∙ turn.number_is read in
    let old = c.loop-turn.standing in
    let other = rw c.in_default.is at c.in_ok-next.ensures in
    let least : old.number ≤ read.number = let reached = c.loop-turn.invariant.reached i none (omega arith) inside in omega (arith, reached, number) in
    let state : after step old.state (between old.number read.number batches) ≡ after step c.args.base (take read.number batches) = further step c.args.base old.state batches old.number read.number least c.loop-turn.invariant.state in
    let placed : t.at < length told = omega (arith, turn.within, c.requires.told) in
    wrong_answer own reads (answers_told told) t.at read reply.answer turn.within c.index-reads-turn.is (λ is. other
    (ap (λ (u : Told). u.answer) c.index-replies-turn.is ∙ sym (get_or-map (λ (u : Told). u.answer) told t.at reply reply.answer placed) ∙ is
    ∙ sym (ap (λ (s : g.row.S.Denot). g.A.Answers.answer_of s read.asked.query) state)))

pub returns : goal.returns
returns g c =
    let own = answer_to g.S.State.step g.A.Answers.answer_of c.args.base c.args.batches.now in (
      c.loop-turn.invariant.most,
      c.loop-turn.invariant.state,
      all_answers own c.args.reads.now c.args.turns.now c.loop-turn.turn-index (answers_told c.args.replies.now) c.requires.turns (omega arith) c.loop-turn.invariant.answers,
    )
