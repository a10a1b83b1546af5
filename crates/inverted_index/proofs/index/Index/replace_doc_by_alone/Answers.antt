use Rattle.std.proofs.Common.{List, subst}
use Rattle.std.proofs.lemmas.Result.{IfOk-weaker}
use Rattle.inverted_index.proofs.Removed.{added_new}
use Rattle.inverted_index.specs.Added.{IsAddedBy}
use Rattle.inverted_index.specs.Queries.{Document}
use Rattle.inverted_index.specs.Terms.{weighed_by}
use Rattle.inverted_index.proofs.index.Index.replace_doc_by_alone.Goals as goal

pub returns-clause-added : goal.returns-clause-added
returns-clause-added g c = IfOk-weaker c.add_doc_by_alone.result _ _ (λ a h. subst (λ (ds : List Document). IsAddedBy (weighed_by (g.W.Weigh.weight c.args.weigh.now)) ds c.args.doc c.args.text.now a) c.in_ok-rest.ensures h) c.add_doc_by_alone.ensures

pub returns-clause-new : goal.returns-clause-new
returns-clause-new g c = IfOk-weaker c.add_doc_by_alone.result _ _ (λ a h. added_new (weighed_by (g.W.Weigh.weight c.args.weigh.now)) c.args.self.now c.args.doc c.args.text.now a (subst (λ (ds : List Document). IsAddedBy (weighed_by (g.W.Weigh.weight c.args.weigh.now)) ds c.args.doc c.args.text.now a) c.in_ok-rest.ensures h)) c.add_doc_by_alone.ensures
