use Rattle.std.proofs.Common.{◌++◌, ◌∷◌, take, decimal, flat_map}
use Rattle.std.proofs.lemmas.Result.{err_from_is_err_and}
use Rattle.script.specs.Lines.{IsPrefix, comma}
use Rattle.script.proofs.LineFacts.{begins_earlier}
use Rattle.script.proofs.lines.reply.Goals as goal

pub returns-in_err-push_part : goal.returns-in_err-push_part
returns-in_err-push_part c =
    let part : IsPrefix c.loop-number.out.items c.push_part.new.out.items = c.in_err-push_part.ensures.items in
    let p = err_from_is_err_and c.from_residual-in_err-push_part.result c.from_residual-in_err-push_part.ensures.1 in
    rw (p.1) (begins_earlier c.args.out.now.items (c.args.word.now ++ flat_map (λ n. comma ∷ decimal n) (take c.loop-number.number-index c.args.numbers.now)) c.push_part.new.out.items (rw c.loop-number.invariant at part))
