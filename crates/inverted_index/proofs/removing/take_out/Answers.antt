use Rattle.std.proofs.Common.{◌≡◌, true, false, sym, ◌∙◌}
use Rattle.std.proofs.lemmas.Result.{IfOk-weaker}
use Rattle.std.specs.Option.{is_some}
use Rattle.std.specs.Ordering.{nat_cmp}
use Rattle.map_model.specs.Entries.{lookup}
use Rattle.inverted_index.proofs.Removed.{cut_term, kept_term}
use Rattle.inverted_index.specs.Terms.{bytes_cmp}
use Rattle.inverted_index.proofs.removing.take_out.Goals as goal

pub returns-then-not-has_doc : goal.returns-then-not-has_doc
returns-then-not-has_doc g c =
    let lacks : is_some (lookup nat_cmp c.args.postings.now c.args.doc) ≡ false = sym c.in_ok-has_doc.ensures ∙ c.if-not-has_doc.true in
    λ t. kept_term c.args.doc c.args.term.now t c.args.postings.now (lookup bytes_cmp c.args.lists.now.entries t) lacks

pub returns : goal.returns
returns g c =
    let here : is_some (lookup nat_cmp c.args.postings.now c.args.doc) ≡ true = sym c.in_ok-has_doc.ensures ∙ c.if-not-has_doc.false in
    IfOk-weaker c.set_postings.result _ _ (λ u h t. cut_term c.args.doc c.args.term.now t c.args.postings.now c.in_ok-rest.rest (lookup bytes_cmp c.args.lists.now.entries t) (lookup bytes_cmp c.set_postings.new.lists.entries t) here c.in_ok-rest.ensures (h t)) c.set_postings.ensures
