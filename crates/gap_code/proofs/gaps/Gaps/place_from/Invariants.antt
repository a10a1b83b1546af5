use Rattle.std.proofs.Common.{◌≤◌, ◌-◌}
use Rattle.gap_code.specs.Code.{IsPlaceOf}
use Rattle.gap_code.proofs.gaps.Gaps.place_from.Given as goal

abbrev pub invariant-loop-place : goal.invariant-loop-place
invariant-loop-place g l = IsPlaceOf g.V.ValueCode.bytes_of l.self l.place × (l.place.index ≤ l.index)

abbrev pub decreases-loop-place : goal.decreases-loop-place
decreases-loop-place g l = l.index - l.place.index
