use Rattle.std.proofs.Common.{◌≡◌, ◌+◌, length}
use Rattle.map_model.specs.SetOperations.{intersect}
use Rattle.ord_map.proofs.common.count_found.Given as goal

abbrev pub invariant-loop-key : goal.invariant-loop-key
invariant-loop-key g l = l.count + length (intersect g.A.Key.Ord.cmp (λ a _. a) l.walk l.many) ≡ length (intersect g.A.Key.Ord.cmp (λ a _. a) l.few l.many)

abbrev pub decreases-loop-key : goal.decreases-loop-key
decreases-loop-key g l = length l.walk
