use Rattle.std.proofs.Common.{subst}
use Rattle.map_model.specs.Entries.{IsIncreasing}
use Rattle.diff_leaf.proofs.Orders.{keys_rise}
use Rattle.diff_leaf.proofs.leaf.NumberLeafLeaf.len.Goals as goal

pub returns-clause-increasing : goal.returns-clause-increasing
returns-clause-increasing g c = subst (IsIncreasing g.K.Ord.cmp) c.self.view_is (keys_rise g.K.Ord.cmp g.K.NumberKey.key_of g.met.K.NumberKey.ordered c.self.inside.gaps c.self.invariant.0)
