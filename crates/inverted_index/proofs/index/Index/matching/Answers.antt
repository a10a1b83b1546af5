use Rattle.std.proofs.Common.{◌∙◌}
use Rattle.inverted_index.proofs.Found.{low_found, one_found}
use Rattle.inverted_index.proofs.Questions.{having-matching}
use Rattle.inverted_index.proofs.index.Index.matching.Goals as goal

pub invariant_of-result : goal.invariant_of-result
invariant_of-result c = low_found c.self.inside.known.entries c.self.inside.lists.entries c.args.self.now c.self.invariant c.self.view_is c.args.term.now c.into_map-weights.result.entries (c.into_map-weights.ensures ∙ c.in_ok-list.ensures)

pub returns : goal.returns
returns c =
    one_found c.self.inside.known.entries c.self.inside.lists.entries c.args.self.now c.self.invariant c.self.view_is c.args.term.now c.into_map-weights.result.entries (c.into_map-weights.ensures ∙ c.in_ok-list.ensures)
    ∙ having-matching c.args.term.now c.args.self.now
