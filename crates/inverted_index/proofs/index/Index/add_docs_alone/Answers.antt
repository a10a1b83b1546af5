use Rattle.std.proofs.Common.{◌∙◌}
use Rattle.std.proofs.lemmas.Result.{IfOk-weaker}
use Rattle.inverted_index.proofs.Weighed.{docs_same, outcomes_same, times_weighed}
use Rattle.inverted_index.specs.Terms.{weighed_by, weights_of}
use Rattle.inverted_index.proofs.index.Index.add_docs_alone.Goals as goal

pub returns-clause-index : goal.returns-clause-index
returns-clause-index c = IfOk-weaker c.add_docs_by_alone.result _ _ (λ added is. is ∙ docs_same (weighed_by (λ times _. times)) weights_of times_weighed c.args.self.now c.args.docs.now) c.add_docs_by_alone.ensures.index

pub returns-clause-outcomes : goal.returns-clause-outcomes
returns-clause-outcomes c = IfOk-weaker c.add_docs_by_alone.result _ _ (λ added is. is ∙ outcomes_same (weighed_by (λ times _. times)) weights_of times_weighed c.args.self.now c.args.docs.now) c.add_docs_by_alone.ensures.outcomes
