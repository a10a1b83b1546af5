use Rattle.std.proofs.Common.{ℕ, List, subst}
use Rattle.std.proofs.lemmas.Result.{IfOk-weaker}
use Rattle.inverted_index.specs.Queries.{AreTop}
use Rattle.inverted_index.proofs.Ranked.{top_ranked}
use Rattle.inverted_index.proofs.matching.Matches.top_with_counter.Goals as goal

pub returns : goal.returns
returns g c = IfOk-weaker c.top.result _ _ (λ hits h. subst (λ (m : List (ℕ × ℕ)). AreTop m c.args.k hits.items) c.self.view_is (top_ranked c.self.inside.weights.entries c.args.k hits.items c.size-size.ensures.increasing h)) c.top.ensures.hits
