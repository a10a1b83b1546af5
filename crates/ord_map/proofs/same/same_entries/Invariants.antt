use Rattle.std.proofs.Common.{◌≡◌, ◌&&◌, length}
use Rattle.std.specs.Cmp.Lexicographic.{pointwise}
use Rattle.ord_map.proofs.same.same_entries.Given as goal

abbrev pub invariant-loop-entry : goal.invariant-loop-entry
invariant-loop-entry g l =
    pointwise (λ p q. g.A.Key.PartialEq.eq p.0 q.0 && g.A.Val.PartialEq.eq p.1 q.1) l.left l.right ≡ pointwise (λ p q. g.A.Key.PartialEq.eq p.0 q.0 && g.A.Val.PartialEq.eq p.1 q.1) l.initial.left l.initial.right

abbrev pub decreases-loop-entry : goal.decreases-loop-entry
decreases-loop-entry g l = length l.left
