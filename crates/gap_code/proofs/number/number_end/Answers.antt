use Rattle.std.proofs.Common.{rules}
use Rattle.gap_code.proofs.Numbers.{reading_first, reading_next, reading_done, reading_inside}
use Rattle.gap_code.proofs.number.number_end.Goals as goal

pub loop-place-init : goal.loop-place-init
loop-place-init c = (0, (1, reading_first _ _ c.requires))

pub bounds-from-place : goal.bounds-from-place
bounds-from-place c = reading_inside _ _ _ _ _ c.loop-place.invariant.1.1

pub loop-place-preserved : goal.loop-place-preserved
loop-place-preserved c = (_, (_, (reading_next _ _ _ _ _ c.loop-place.invariant.1.1 c.loop-place-test.true).next))

pub overflow_add-result : goal.overflow_add-result
overflow_add-result c = let inside = reading_inside _ _ _ _ _ c.loop-place.invariant.1.1 in search rules

pub returns : goal.returns
returns c = (reading_done _ _ _ _ _ c.loop-place.invariant.1.1 c.loop-place-test.false).after
