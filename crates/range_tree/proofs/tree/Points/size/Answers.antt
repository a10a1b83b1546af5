use Rattle.std.proofs.Common.{List, subst, ℕ}
use Rattle.aug_monoid.specs.declared.pair64.Pair64.{Pair64}
use Rattle.aug_monoid.specs.Exact.{pair64_cmp}
use Rattle.map_model.specs.Entries.{IsIncreasing}
use Rattle.range_tree.proofs.tree.Points.size.Goals as goal

pub returns-clause-increasing : goal.returns-clause-increasing
returns-clause-increasing c = let P : List (Pair64 × ℕ) → Type 0 = λ m. IsIncreasing pair64_cmp m in subst P c.self.view_is c.size.ensures.increasing
