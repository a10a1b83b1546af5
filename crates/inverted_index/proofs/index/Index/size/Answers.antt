use Rattle.std.proofs.Common.{◌∙◌}
use Rattle.inverted_index.proofs.Contents.{documents_are_lawful, documents_counted, documents_rise}
use Rattle.inverted_index.proofs.index.Index.size.Goals as goal

pub returns-clause-value : goal.returns-clause-value
returns-clause-value c = c.size.ensures.value ∙ documents_counted c.self.inside.known.entries c.self.inside.lists.entries c.args.self.now c.self.invariant c.self.view_is

pub returns-clause-rises : goal.returns-clause-rises
returns-clause-rises c = documents_rise c.self.inside.known.entries c.self.inside.lists.entries c.args.self.now c.self.invariant c.self.view_is

pub returns-clause-terms : goal.returns-clause-terms
returns-clause-terms c = documents_are_lawful c.self.inside.known.entries c.self.inside.lists.entries c.args.self.now c.self.invariant c.self.view_is
