use Rattle.std.proofs.Common.{rules, ◌≡◌, ◌∙◌, true, arith}
use Rattle.std.specs.Result.{is_ok}
use Rattle.std.proofs.lemmas.Result.{err_from_is_err_and}
use Rattle.csv.specs.Records.{fields_of}
use Rattle.index_tool.proofs.TermFacts.{terms-end, terms-fault, terms-more}
use Rattle.index_tool.proofs.term_fields.terms_from.Goals as goal

pub loop-place-preserved : goal.loop-place-preserved
loop-place-preserved c =
    let good : is_ok c.push.result ≡ true = search rules in
    let items = rw good at c.push.ensures.items in
    rw items (c.loop-place.invariant ∙ terms-more c.loop-place.terms.items (fields_of c.args.row.now) c.loop-place.place _ (omega arith) c.in_ok-term_at.ensures)

pub returns-in_err-term_at : goal.returns-in_err-term_at
returns-in_err-term_at c =
    let p = err_from_is_err_and c.from_residual.result c.from_residual.ensures.1 in
    rw (p.1, p.2) (terms-fault c.loop-place.terms.items (fields_of c.args.row.now) c.loop-place.place _ _ (omega arith) c.in_err-term_at.ensures c.loop-place.invariant)

pub returns : goal.returns
returns c = rw c.new.ensures (c.loop-place.invariant ∙ terms-end c.loop-place.terms.items (fields_of c.args.row.now) c.loop-place.place (omega arith))
