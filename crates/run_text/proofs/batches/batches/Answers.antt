use Rattle.std.proofs.Common.{List, ℕ, ◌≡◌, ◌∷◌, [], ◌++◌, ◌+◌, length, ap, sym, subst, ◌∙◌, arith}
use Rattle.std.specs.Prelude.{All}
use Rattle.std.proofs.lemmas.List.Elements.{All-push}
use Rattle.serve_text.specs.Texts.{order_line}
use Rattle.run_text.specs.Forms.{numbers_text, IsNumber}
use Rattle.run_text.proofs.Ordering.{batches_more}
use Rattle.run_text.proofs.batches.batches.Goals as goal

pub loop-number-preserved : goal.loop-number-preserved
loop-number-preserved c =
    let ns = c.loop-number.numbers.items in
    let n = c.in-Some.number in
    let items : c.push.new.self.items ≡ ns ++ n ∷ [] = c.in_ok-push.ensures.items in
    let count : c.len.result + 1 ≡ length ns + 1 = omega arith in
    let line : c.loop-number.rest.now ≡ order_line (length ns + 1) n ++ c.in-Some.behind.now = c.in-Some.ensures.1 ∙ ap (λ (k : ℕ). order_line k n ++ c.in-Some.behind.now) count in
    record {
      is = batches_more c.args.text.now c.loop-number.rest.now c.in-Some.behind.now n ns c.loop-number.invariant.is line ∙ ap (λ (l : List ℕ). numbers_text 1 l ++ c.in-Some.behind.now) (sym items);
      fit = subst (All IsNumber) (sym items) (All-push IsNumber ns n c.loop-number.invariant.fit c.in-Some.ensures.0);
    }
