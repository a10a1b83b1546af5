use Rattle.std.proofs.Common.{List, ℕ, ◌∷◌, ◌++◌, decimal, get_or, sym, ap, arith, ◌∙◌}
use Rattle.serve_text.specs.Texts.{comma}
use Rattle.run_text.proofs.Telling.{never_within, tail_of, digits_before, one_decimal}
use Rattle.run_text.proofs.head.behind_head.Goals as goal

pub returns-in_default-split_at_byte : goal.returns-in_default-split_at_byte
returns-in_default-split_at_byte c = λ rest is.
    never_within comma _ (decimal c.args.place) rest c.in_default-split_at_byte.ensures (tail_of c.args.line.now c.args.letter comma (decimal c.args.place ++ comma ∷ rest) is)

pub returns-in_default-number : goal.returns-in_default-number
returns-in_default-number c = λ rest is.
    c.in_default-number.ensures c.args.place c.ranges.place.fits
    (digits_before c.args.place c.in-Some.digits.now c.in-Some.rest.now _ rest c.ranges.place.fits c.in-Some.ensures.1 c.in-Some.ensures.0
    (tail_of c.args.line.now c.args.letter comma (decimal c.args.place ++ comma ∷ rest) is))

pub returns-then-first-letter : goal.returns-then-first-letter
returns-then-first-letter c = λ rest is. c.if-first-letter.true (ap (λ (l : List ℕ). get_or l 0 0) is)

pub returns-then-found-place : goal.returns-then-found-place
returns-then-found-place c = λ rest is.
    c.if-found-place.true
    (one_decimal c.in-Some-number.found c.args.place (omega arith) c.ranges.place.fits
    (sym c.in-Some-number.ensures
    ∙ digits_before c.args.place c.in-Some.digits.now c.in-Some.rest.now _ rest c.ranges.place.fits c.in-Some.ensures.1 c.in-Some.ensures.0
    (tail_of c.args.line.now c.args.letter comma (decimal c.args.place ++ comma ∷ rest) is)))
