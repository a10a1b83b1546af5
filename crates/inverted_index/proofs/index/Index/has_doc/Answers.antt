use Rattle.std.proofs.Common.{◌∙◌}
use Rattle.inverted_index.proofs.Found.{doc_found}
use Rattle.inverted_index.proofs.index.Index.has_doc.Goals as goal

pub returns : goal.returns
returns c = c.is_known.ensures ∙ doc_found c.self.inside.known.entries c.self.inside.lists.entries c.args.self.now c.args.doc c.self.view_is
