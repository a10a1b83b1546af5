use Rattle.std.proofs.Common.{◌≡◌, ◌<◌, Some, None, rules, slice_get, sym, ap, ◌∙◌, subst, arith, length}
use Rattle.std.specs.Prelude.{All}
use Rattle.std.proofs.lemmas.List.{length-drop}
use Rattle.serve_rounds.proofs.UnderWay.{IsUnderWay, way_begins, left_rises, least_first, none_at, first_at, round_below, some_taken, way_step, way_ends}
use Rattle.serve_rounds.proofs.rounds.run_rounds.Goals as goal

pub loop-record-init : goal.loop-record-init
loop-record-init g c =
    subst (λ t. IsUnderWay g.S.State.step g.A.Answers.answer_of c.args.records.now c.args.records.now c.args.store c.args.store c.args.callers.items c.args.callers.items t)
    (sym c.new.ensures.items) (way_begins g.S.State.step g.A.Answers.answer_of c.args.records.now c.args.store c.args.callers.items c.requires.new)

pub round_length-requires-clause-rise : goal.round_length-requires-clause-rise
round_length-requires-clause-rise g c =
    left_rises g.S.State.step g.A.Answers.answer_of c.args.records.now c.loop-record.left.now c.args.store c.loop-record.played.store c.args.callers.items c.loop-record.played.callers.items c.loop-record.played.text.items
    c.requires.rounds c.loop-record.invariant

pub round_length-requires-clause-least : goal.round_length-requires-clause-least
round_length-requires-clause-least g c =
    let first : Some c.in-Some.record.now ≡ slice_get c.loop-record.left.now 0 = search rules in
    least_first g.S.State.step g.A.Answers.answer_of c.args.records.now c.loop-record.left.now c.args.store c.loop-record.played.store c.args.callers.items c.loop-record.played.callers.items c.loop-record.played.text.items
    c.requires.rounds c.loop-record.invariant c.in-Some.record.now (first_at c.loop-record.left.now c.in-Some.record.now first).0

pub play_round-requires-clause-callers : goal.play_round-requires-clause-callers
play_round-requires-clause-callers g c κs within =
    subst (All (λ r. r.caller < length c.loop-record.played.callers.items)) (sym c.split_at.ensures.front)
    (round_below g.S.State.step g.A.Answers.answer_of c.args.records.now c.loop-record.left.now c.args.store c.loop-record.played.store c.args.callers.items c.loop-record.played.callers.items c.loop-record.played.text.items
    c.requires.rounds c.loop-record.invariant c.round_length.result)

pub loop-record-smaller : goal.loop-record-smaller
loop-record-smaller g c =
    let first : Some c.in-Some.record.now ≡ slice_get c.loop-record.left.now 0 = search rules in
    let some = some_taken g.S.State.step g.A.Answers.answer_of c.loop-record.left.now c.in-Some.record.now c.round_length.result first c.round_length.ensures.later in
    let cut = ap length c.split_at.ensures.back ∙ length-drop c.round_length.result c.loop-record.left.now in
    omega (arith, some, cut, (first_at c.loop-record.left.now c.in-Some.record.now first).1)

pub loop-record-preserved : goal.loop-record-preserved
loop-record-preserved g c =
    let first : Some c.in-Some.record.now ≡ slice_get c.loop-record.left.now 0 = search rules in
    way_step g.S.State.step g.A.Answers.answer_of c.args.records.now c.loop-record.left.now c.args.store c.loop-record.played.store c.args.callers.items c.loop-record.played.callers.items c.loop-record.played.text.items
    c.requires.rounds c.loop-record.invariant c.in-Some.record.now c.round_length.result c.split_at.result.0.now c.split_at.result.1.now
    c.in_ok-played.played.store c.in_ok-played.played.callers.items c.in_ok-played.played.text.items first c.split_at.ensures.front c.split_at.ensures.back
    c.round_length.ensures.here c.round_length.ensures.later c.in_ok-played.ensures

pub returns : goal.returns
returns g c =
    let at : slice_get c.loop-record.left.now 0 ≡ None = search rules in
    way_ends g.S.State.step g.A.Answers.answer_of c.args.records.now c.loop-record.left.now c.args.store c.loop-record.played.store c.args.callers.items c.loop-record.played.callers.items c.loop-record.played.text.items
    c.loop-record.invariant (none_at c.loop-record.left.now at)
