use Rattle.std.proofs.Common.{decimal, sym, ◌∙◌}
use Rattle.run_text.proofs.Telling.{behind_same}
use Rattle.run_text.proofs.Ordering.{no_batch, batch_parts}
use Rattle.run_text.proofs.batches.next_batch.Goals as goal

pub returns-in_default : goal.returns-in_default
returns-in_default c = λ n rest small is. no_batch c.args.place n c.args.text.now rest c.in_default.ensures is

pub returns-in_default-behind_head : goal.returns-in_default-behind_head
returns-in_default-behind_head c = λ n rest small is.
    c.in_default-behind_head.ensures (decimal n) (batch_parts c.args.place n c.args.text.now c.in-Some.line.now c.in-Some.rest.now rest c.in-Some.ensures.1 c.in-Some.ensures.0 is).0

pub returns-in-None : goal.returns-in-None
returns-in-None c = λ n rest small is.
    c.in-None.ensures n small
    (behind_same c.args.place 106 c.in-Some-behind_head.digits.now (decimal n)
    (sym c.in-Some-behind_head.ensures ∙ (batch_parts c.args.place n c.args.text.now c.in-Some.line.now c.in-Some.rest.now rest c.in-Some.ensures.1 c.in-Some.ensures.0 is).0))
