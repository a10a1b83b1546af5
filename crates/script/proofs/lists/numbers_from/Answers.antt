use Rattle.std.proofs.Common.{rules, ◌≡◌, ◌∙◌, true, arith, sym}
use Rattle.std.specs.Result.{is_ok}
use Rattle.std.proofs.lemmas.Result.{err_from_is_err_and}
use Rattle.csv.specs.Records.{fields_of}
use Rattle.script.proofs.ListFacts.{numbers-bad, numbers-end, numbers-more}
use Rattle.script.proofs.lists.numbers_from.Goals as goal

pub loop-place-preserved : goal.loop-place-preserved
loop-place-preserved c =
    let good : is_ok c.push.result ≡ true = search rules in
    let items = rw good at c.push.ensures.items in
    rw items (c.loop-place.invariant ∙ numbers-more c.loop-place.numbers.items (fields_of c.args.row.now) c.loop-place.place _ (omega arith) (sym c.in_ok-number_at.ensures))

pub returns-in_err-number_at : goal.returns-in_err-number_at
returns-in_err-number_at c =
    let p = err_from_is_err_and c.from_residual.result c.from_residual.ensures.1 in
    rw (p.1, p.2) (c.loop-place.invariant ∙ numbers-bad c.loop-place.numbers.items (fields_of c.args.row.now) c.loop-place.place _ (omega arith) (sym c.in_err-number_at.ensures))

pub returns : goal.returns
returns c = rw c.new.ensures (c.loop-place.invariant ∙ numbers-end c.loop-place.numbers.items (fields_of c.args.row.now) c.loop-place.place (omega arith))
