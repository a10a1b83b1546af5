use Rattle.std.proofs.Common.{◌≡◌, ◌++◌, false, true, map, sym, ◌∙◌}
use Rattle.serve_text.specs.Texts.{last_text}
use Rattle.run_text.specs.Forms.{Told, numbers_text}
use Rattle.run_text.proofs.Telling.{these_reads}
use Rattle.run_text.proofs.Ordering.{whole_told, form_reads, form_last}
use Rattle.run_text.proofs.form.parts_told.Goals as goal

pub returns-in_default : goal.returns-in_default
returns-in_default c = λ numbers order form.
    let reads = form_reads c.args.places.now numbers order c.args.text.now form in
    (rw c.in_default.is at c.in_ok-found.ensures) numbers (numbers_text 1 order ++ last_text form.totals) reads

pub returns-then-is_last : goal.returns-then-is_last
returns-then-is_last c =
    whole_told c.args.places.now c.in-Some.found.told.items c.in_ok-ordered.ordered.numbers.items c.args.text.now c.in-Some.found.rest.now c.in_ok-ordered.ordered.rest.now
    (rw c.in-Some.is at c.in_ok-found.ensures) c.in_ok-ordered.ensures.found c.in_ok-ordered.ensures.fit (c.is_last.ensures.0 c.if-is_last.true)

pub returns : goal.returns
returns c = λ numbers order form.
    let told = c.in-Some.found.told.items in
    let rest = c.in-Some.found.rest.now in
    let ordered = c.in_ok-ordered.ordered in
    let reads = these_reads c.args.places.now told c.args.text.now rest (rw c.in-Some.is at c.in_ok-found.ensures) in
    let last = form_last c.args.places.now (map (λ (t : Told). t.number) told) numbers ordered.numbers.items order c.args.text.now rest ordered.rest.now form
    reads c.in_ok-ordered.ensures.found c.in_ok-ordered.ensures.fit c.in_ok-ordered.ensures.all in
    let z : false ≡ true = sym c.if-is_last.false ∙ c.is_last.ensures.1 last in
    cc
