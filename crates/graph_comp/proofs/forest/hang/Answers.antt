use Rattle.graph_comp.proofs.Trees.{joined_root, still_forest}
use Rattle.graph_comp.proofs.forest.hang.Goals as goal

pub returns-clause-forest : goal.returns-clause-forest
returns-clause-forest c = still_forest c.args.parents.now c.args.root c.args.parent c.requires.within c.requires.forest c.requires.low

pub returns-clause-hung : goal.returns-clause-hung
returns-clause-hung c = joined_root c.args.parents.now c.args.root c.args.parent c.requires.within c.requires.root
