use Rattle.std.proofs.Common.{ℕ, List, subst, sym}
use Rattle.std.proofs.lemmas.Result.{IfOk-weaker}
use Rattle.inverted_index.specs.Queries.{AreTerms}
use Rattle.inverted_index.proofs.Prefixes.{all_terms}
use Rattle.inverted_index.proofs.index.Index.terms.Goals as goal

pub returns : goal.returns
returns c = IfOk-weaker c.terms_of_lists.result _ _ (λ terms is. subst (λ (ts : List (List ℕ)). AreTerms c.args.self.now ts) (sym is) (all_terms c.map.result.now.entries c.args.self.now c.map.ensures.rises c.map.ensures.lists)) c.terms_of_lists.ensures
