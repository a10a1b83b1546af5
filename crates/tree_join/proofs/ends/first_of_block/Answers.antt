use Rattle.std.proofs.Common.{subst}
use Rattle.map_model.specs.Entries.{IsIncreasing}
use Rattle.map_model.proofs.Keys.{around}
use Rattle.map_model.proofs.Cuts.{first_cut}
use Rattle.tree_join.proofs.ends.first_of_block.Goals as goal

pub from_leaf-requires-clause-increasing : goal.from_leaf-requires-clause-increasing
from_leaf-requires-clause-increasing g c = (around _ _ _ _ _ (subst (IsIncreasing g.M.Key.Ord.cmp) c.in_ok-first.ensures.whole c.requires.increasing)).right

pub returns-clause-entries : goal.returns-clause-entries
returns-clause-entries g c = rw c.in_ok-rest.ensures.entries (first_cut (g.M.Leaf.Leaf.entries c.args.leaf.now) _ _ _ c.in_ok-first.ensures.whole c.in_ok-first.ensures.front_length)
