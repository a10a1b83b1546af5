use Rattle.std.proofs.Common.{subst}
use Rattle.aug_monoid.specs.Exact.{pair64_cmp}
use Rattle.map_model.specs.Entries.{IsIncreasing}
use Rattle.row_leaf.proofs.leaf.RowLeafLeafPair64U64.len.Goals as goal

pub returns-clause-increasing : goal.returns-clause-increasing
returns-clause-increasing c = subst (IsIncreasing pair64_cmp) c.self.view_is c.self.invariant
