use Rattle.std.proofs.Common.{ap, ◌∙◌}
use Rattle.std.proofs.lemmas.Result.{IfOk-weaker}
use Rattle.inverted_index.specs.Queries.{hits_of}
use Rattle.inverted_index.proofs.Found.{all_found}
use Rattle.inverted_index.proofs.index.Index.all_of_alone.Goals as goal

pub returns : goal.returns
returns c = IfOk-weaker c.hits_of.result _ _ (λ hits h. h ∙ ap hits_of (all_found c.self.inside.known.entries c.self.inside.lists.entries c.args.self.now c.self.invariant c.self.view_is c.args.terms.now c.in_ok-lists.lists.items c.in_ok-sorted.sorted.items c.deref.result.now c.in_ok-found.found.entries c.in_ok-lists.ensures c.in_ok-sorted.ensures.same c.deref.ensures.value c.in_ok-found.ensures.entries c.in_ok-found.ensures.rises)) c.hits_of.ensures
