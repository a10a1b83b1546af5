use Rattle.std.specs.Vec.{vec_capacity}
use Rattle.std.proofs.Common.{◌<◌, ◌+◌, ◌++◌, ◌∷◌, [], take, decimal, flat_map, length, length-append, ap, arith}
use Rattle.std.proofs.lemmas.Result.{err_from_is_err_and}
use Rattle.std.proofs.lemmas.List.Folds.{length-flat_map-take}
use Rattle.script.specs.Lines.{IsPrefix, comma, line_feed, line_of}
use Rattle.script.proofs.LineFacts.{begins_earlier}
use Rattle.script.proofs.lines.append_line.Goals as goal

pub returns-in_err-push_part-clause-items : goal.returns-in_err-push_part-clause-items
returns-in_err-push_part-clause-items c =
    let part : IsPrefix c.loop-number.out.items c.push_part.new.out.items = c.in_err-push_part.ensures.items in
    let p = err_from_is_err_and c.from_residual-in_err-push_part.result c.from_residual-in_err-push_part.ensures.1 in
    rw (p.1) (begins_earlier c.args.out.now.items (c.args.word.now ++ flat_map (λ n. comma ∷ decimal n) (take c.loop-number.number-index c.args.numbers.now)) c.push_part.new.out.items (rw c.loop-number.invariant.0 at part))

pub returns-in_err-push_part-clause-full : goal.returns-in_err-push_part-clause-full
returns-in_err-push_part-clause-full c =
    let p = err_from_is_err_and c.from_residual-in_err-push_part.result c.from_residual-in_err-push_part.ensures.1 in
    let old = c.args.out.now.items in
    let word = c.args.word.now in
    let numbers = c.args.numbers.now in
    let parts = flat_map (λ n. comma ∷ decimal n) (take c.loop-number.number-index numbers) in
    let all = flat_map (λ n. comma ∷ decimal n) numbers in
    let so_far = ap length c.loop-number.invariant.0 in
    let more = length-flat_map-take (λ n. comma ∷ decimal n) numbers c.loop-number.number-index 0 c.loop-number-test.true in
    let full : vec_capacity c.args.out.now < length old + length (line_of word numbers) =
    omega (arith, so_far, length-append old (word ++ parts), length-append word parts, more, length-append (word ++ all) (line_feed ∷ []), length-append word all, c.loop-number.invariant.1, c.in_err-push_part.ensures.full) in
    rw (p.1) full
