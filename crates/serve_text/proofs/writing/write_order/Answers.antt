use Rattle.std.proofs.Common.{◌≡◌, ◌+◌, ◌++◌, ℕ, List, take, sym, ap, ◌∙◌, arith, append_assoc}
use Rattle.std.proofs.lemmas.Result.{err_from_is_err_and}
use Rattle.serve_text.specs.Texts.{Extends, order_line, order_text}
use Rattle.serve_text.proofs.Extending.{extends_earlier}
use Rattle.serve_text.proofs.Growing.{order_text-more}
use Rattle.serve_text.proofs.writing.write_order.Goals as goal

pub loop-at-preserved : goal.loop-at-preserved
loop-at-preserved g c =
    let tag = c.in-Some.entry.now.tag in
    let front = order_text 1 (take c.loop-at.at c.args.journal.now) in
    let more = order_text-more 1 c.loop-at.at c.args.journal.now c.in-Some.entry.now c.in-Some.ensures.value in
    c.in_ok-push_order_line.ensures
    ∙ ap (λ (l : List ℕ). l ++ order_line (c.loop-at.at + 1) tag) c.loop-at.invariant
    ∙ append_assoc c.args.out.now.items front (order_line (c.loop-at.at + 1) tag)
    ∙ ap (λ (n : ℕ). c.args.out.now.items ++ (front ++ order_line n tag)) (let q : c.loop-at.at + 1 ≡ 1 + c.loop-at.at = omega arith in q)
    ∙ ap (λ (l : List ℕ). c.args.out.now.items ++ l) (sym more)

pub returns-in_err-push_order_line : goal.returns-in_err-push_order_line
returns-in_err-push_order_line g c =
    let part : Extends c.loop-at.out.items c.push_order_line.new.out.items = c.in_err-push_order_line.ensures in
    let p = err_from_is_err_and c.from_residual.result c.from_residual.ensures.1 in
    rw (p.1) (extends_earlier c.args.out.now.items (order_text 1 (take c.loop-at.at c.args.journal.now)) c.push_order_line.new.out.items (rw c.loop-at.invariant at part))
