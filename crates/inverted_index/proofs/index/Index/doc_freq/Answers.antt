use Rattle.std.proofs.Common.{ap, length, ◌∙◌}
use Rattle.inverted_index.proofs.Found.{one_found}
use Rattle.inverted_index.proofs.index.Index.doc_freq.Goals as goal

pub returns : goal.returns
returns c = c.size.ensures.value ∙ ap length (one_found c.self.inside.known.entries c.self.inside.lists.entries c.args.self.now c.self.invariant c.self.view_is c.args.term.now c.map.result.now.entries (c.map.ensures ∙ c.in_ok-list.ensures))
