use Rattle.std.proofs.Common.{ℕ, Bool, List, [], cond, sym, subst, ◌∙◌}
use Rattle.inverted_index.specs.Documents.{AreFit}
use Rattle.inverted_index.specs.Terms.{weighed_by}
use Rattle.inverted_index.proofs.Weighed.{told_by}
use Rattle.inverted_index.proofs.batch.gather.Goals as goal

pub returns-clause-fit : goal.returns-clause-fit
returns-clause-fit g c =
    let weight = g.W.Weigh.weight c.args.weigh.now in
    let text = c.args.doc.now.text.now in
    let P : List (List ℕ × ℕ) → Type 0 = λ l. AreFit l in
    let Q : Bool → Type 0 = λ b. AreFit (cond b (weighed_by weight text) []) in
    let same = told_by weight text c.deref.result.now c.in_ok-counts.number (c.deref.ensures.value ∙ c.in_ok-counts.ensures.counts) c.in_ok-counts.ensures.number in
    subst Q (sym c.if-not-doc.false) (subst P same c.in_ok-push_doc.ensures.fit)
