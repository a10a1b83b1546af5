use Rattle.std.proofs.Common.{ℕ, List, ap, subst, sym, ◌∙◌}
use Rattle.std.proofs.lemmas.Result.{IfOk-weaker}
use Rattle.inverted_index.specs.Merging.{terms_with}
use Rattle.inverted_index.specs.Queries.{AreTermsFrom}
use Rattle.inverted_index.specs.Terms.{small}
use Rattle.inverted_index.proofs.Prefixes.{none_foreign, terms_begun}
use Rattle.inverted_index.proofs.index.Index.terms_from.Goals as goal

pub returns-then-not-is_term : goal.returns-then-not-is_term
returns-then-not-is_term c =
    let none = none_foreign c.args.self.now c.args.prefix.now (sym c.is_empty.ensures ∙ c.if-is_empty.false) (sym c.is_term.ensures ∙ c.if-not-is_term.true) in
    subst (λ (ts : List (List ℕ)). AreTermsFrom c.args.self.now (small c.args.prefix.now) ts) (sym c.new.ensures.items) none

pub returns : goal.returns
returns c =
    let begun = terms_begun c.map.result.now.entries c.args.self.now c.map.ensures.rises c.map.ensures.lists (small c.args.prefix.now) in
    IfOk-weaker c.terms_with.result _ _ (λ terms is. subst (λ (ts : List (List ℕ)). AreTermsFrom c.args.self.now (small c.args.prefix.now) ts) (sym (is ∙ ap (λ front. terms_with front c.map.result.now.entries) c.in_ok-front.ensures)) begun) c.terms_with.ensures
