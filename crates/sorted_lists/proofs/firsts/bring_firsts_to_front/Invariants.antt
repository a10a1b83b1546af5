use Rattle.std.proofs.Common.{◌+◌, ◌≤◌}
use Rattle.std.specs.Ordering.{is_eq}
use Rattle.sorted_lists.proofs.FrontPairs.{StandInFront}
use Rattle.sorted_lists.proofs.firsts.bring_firsts_to_front.Given as goal

abbrev pub invariant-loop-at : goal.invariant-loop-at
invariant-loop-at g l =
    StandInFront (λ (x y : g.row.K.Denot × g.row.V.Denot). is_eq (g.K.Ord.cmp x.0 y.0)) l.initial.pairs l.pairs l.kept l.at
    × (l.steps + 1 ≤ l.initial.steps + l.at)
