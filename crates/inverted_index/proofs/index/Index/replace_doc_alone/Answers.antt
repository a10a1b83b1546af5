use Rattle.std.proofs.Common.{List, subst}
use Rattle.std.proofs.lemmas.Result.{IfOk-weaker}
use Rattle.inverted_index.proofs.Removed.{added_new}
use Rattle.inverted_index.specs.Added.{IsAdded}
use Rattle.inverted_index.specs.Queries.{Document}
use Rattle.inverted_index.specs.Terms.{weights_of}
use Rattle.inverted_index.proofs.index.Index.replace_doc_alone.Goals as goal

pub returns-clause-added : goal.returns-clause-added
returns-clause-added c = IfOk-weaker c.add_doc_alone.result _ _ (λ a h. subst (λ (ds : List Document). IsAdded ds c.args.doc c.args.text.now a) c.in_ok-rest.ensures h) c.add_doc_alone.ensures

pub returns-clause-new : goal.returns-clause-new
returns-clause-new c = IfOk-weaker c.add_doc_alone.result _ _ (λ a h. added_new weights_of c.args.self.now c.args.doc c.args.text.now a (subst (λ (ds : List Document). IsAdded ds c.args.doc c.args.text.now a) c.in_ok-rest.ensures h)) c.add_doc_alone.ensures
