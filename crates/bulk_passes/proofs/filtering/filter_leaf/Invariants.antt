use Rattle.std.proofs.Common.{◌≡◌, ◌+◌, ◌≤◌, ◌++◌, take}
use Rattle.std.specs.List.{filter}
use Rattle.bulk_passes.proofs.filtering.filter_leaf.Given as goal

abbrev pub invariant-loop-at : goal.invariant-loop-at
invariant-loop-at g l =
    (l.out.items ≡ l.initial.out.items ++ filter (λ e. g.T.Test.passes l.test e.0 e.1) (take l._at (g.L.Leaf.entries l.leaf))) × (l.steps ≤ l.initial.steps + l._at) × (l.walk.index ≡ l._at) × (g.L.Leaf.fits_walk l.leaf l.walk)
