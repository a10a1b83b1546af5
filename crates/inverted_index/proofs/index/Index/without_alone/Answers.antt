use Rattle.std.proofs.Common.{ap, ◌∙◌}
use Rattle.std.proofs.lemmas.Result.{IfOk-weaker}
use Rattle.inverted_index.specs.Queries.{hits_of}
use Rattle.inverted_index.proofs.Found.{rest_found}
use Rattle.inverted_index.proofs.index.Index.without_alone.Goals as goal

pub returns : goal.returns
returns c = IfOk-weaker c.hits_of.result _ _ (λ hits h. h ∙ ap hits_of (rest_found c.self.inside.known.entries c.self.inside.lists.entries c.args.self.now c.self.invariant c.self.view_is c.args.has.now c.args.not.now c.map.result.now.entries c.map-2.result.now.entries c.in_ok-found.found.entries (c.map.ensures ∙ c.in_ok-first.ensures) (c.map-2.ensures ∙ c.in_ok-second.ensures) c.in_ok-found.ensures)) c.hits_of.ensures
