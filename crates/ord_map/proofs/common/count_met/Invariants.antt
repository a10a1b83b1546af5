use Rattle.std.proofs.Common.{◌≡◌, ◌+◌, length}
use Rattle.map_model.specs.Entries.{IsIncreasing}
use Rattle.map_model.specs.SetOperations.{intersect}
use Rattle.ord_map.specs.Ahead.{ahead}
use Rattle.ord_map.proofs.common.count_met.Given as goal

abbrev pub invariant-loop-near : goal.invariant-loop-near
invariant-loop-near g l =
    (l.count + length (intersect g.A.Key.Ord.cmp (λ a _. a) (ahead l.near l.left) (ahead l.far l.right)) ≡ length (intersect g.A.Key.Ord.cmp (λ a _. a) l.a l.b))
    × IsIncreasing g.A.Key.Ord.cmp (ahead l.near l.left) × IsIncreasing g.A.Key.Ord.cmp (ahead l.far l.right)

abbrev pub decreases-loop-near : goal.decreases-loop-near
decreases-loop-near g l = length (ahead l.near l.left) + length (ahead l.far l.right)
