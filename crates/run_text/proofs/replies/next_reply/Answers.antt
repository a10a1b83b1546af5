use Rattle.std.proofs.Common.{List, ℕ, ◌∷◌, ◌++◌, decimal, refl, sym, ap, arith, ◌∙◌}
use Rattle.serve_text.specs.Texts.{comma}
use Rattle.run_text.proofs.Telling.{never_within, none_told, line_told, told_by_parts, behind_same, digits_before}
use Rattle.run_text.proofs.replies.next_reply.Goals as goal

pub returns-in_default : goal.returns-in_default
returns-in_default c = λ n rest small tells. none_told c.args.place n c.args.text.now rest c.in_default.ensures tells

pub returns-in_default-behind_head : goal.returns-in_default-behind_head
returns-in_default-behind_head c = λ n rest small tells.
    let line = line_told c.args.place n c.args.text.now c.in-Some.line.now c.in-Some.rest.now rest c.in-Some.ensures.1 c.in-Some.ensures.0 tells in
    c.in_default-behind_head.ensures (decimal n ++ comma ∷ line.answer) line.is

pub returns-in_default-split_at_byte : goal.returns-in_default-split_at_byte
returns-in_default-split_at_byte c = λ n rest small tells.
    let line = line_told c.args.place n c.args.text.now c.in-Some.line.now c.in-Some.rest.now rest c.in-Some.ensures.1 c.in-Some.ensures.0 tells in
    never_within comma c.in-Some-behind_head.behind.now (decimal n) line.answer c.in_default-split_at_byte.ensures
    (behind_same c.args.place 114 c.in-Some-behind_head.behind.now (decimal n ++ comma ∷ line.answer) (sym c.in-Some-behind_head.ensures ∙ line.is))

pub returns : goal.returns
returns c = (
  refl,
  told_by_parts c.args.place c.in-Some-number.number c.args.text.now c.in-Some.line.now c.in-Some.rest.now c.in-Some-behind_head.behind.now c.in-Some-split_at_byte.answer.now
      c.in-Some.ensures.1 c.in-Some.ensures.0 c.in-Some-behind_head.ensures
      (c.in-Some-split_at_byte.ensures.0 ∙ ap (λ (l : List ℕ). l ++ comma ∷ c.in-Some-split_at_byte.answer.now) c.in-Some-number.ensures) (omega arith),
)

pub returns-in_default-number : goal.returns-in_default-number
returns-in_default-number c = λ n rest small tells.
    let line = line_told c.args.place n c.args.text.now c.in-Some.line.now c.in-Some.rest.now rest c.in-Some.ensures.1 c.in-Some.ensures.0 tells in
    c.in_default-number.ensures n small
    (digits_before n c.in-Some-split_at_byte.digits.now c.in-Some-split_at_byte.answer.now c.in-Some-behind_head.behind.now line.answer small c.in-Some-split_at_byte.ensures.1 c.in-Some-split_at_byte.ensures.0
    (behind_same c.args.place 114 c.in-Some-behind_head.behind.now (decimal n ++ comma ∷ line.answer) (sym c.in-Some-behind_head.ensures ∙ line.is)))
