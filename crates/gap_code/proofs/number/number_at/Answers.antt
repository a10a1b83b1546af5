use Rattle.std.proofs.Common.{arith, rules}
use Rattle.gap_code.proofs.Numbers.{reading_first, reading_next, reading_done, reading_inside}
use Rattle.gap_code.proofs.number.number_at.Goals as goal

pub loop-place-init : goal.loop-place-init
loop-place-init c = reading_first _ _ c.requires

pub bounds-from-place : goal.bounds-from-place
bounds-from-place c = reading_inside _ _ _ _ _ c.loop-place.invariant

pub overflow_mul-value : goal.overflow_mul-value
overflow_mul-value c = let step = reading_next _ _ _ _ _ c.loop-place.invariant c.loop-place-test.true in omega (arith, step.low_fits)

pub overflow_add-value : goal.overflow_add-value
overflow_add-value c = let step = reading_next _ _ _ _ _ c.loop-place.invariant c.loop-place-test.true in omega (arith, step.low_fits)

pub overflow_mul-scale : goal.overflow_mul-scale
overflow_mul-scale c = let step = reading_next _ _ _ _ _ c.loop-place.invariant c.loop-place-test.true in omega (arith, step.scale_fits)

pub loop-place-preserved : goal.loop-place-preserved
loop-place-preserved c = (reading_next _ _ _ _ _ c.loop-place.invariant c.loop-place-test.true).next

pub bounds-from-place-2 : goal.bounds-from-place-2
bounds-from-place-2 c = reading_inside _ _ _ _ _ c.loop-place.invariant

pub overflow_mul-result : goal.overflow_mul-result
overflow_mul-result c = let step = reading_done _ _ _ _ _ c.loop-place.invariant c.loop-place-test.false in omega (arith, step.product_fits)

pub overflow_add-result : goal.overflow_add-result
overflow_add-result c = let step = reading_done _ _ _ _ _ c.loop-place.invariant c.loop-place-test.false in omega (arith, step.fits)

pub overflow_add-result-2 : goal.overflow_add-result-2
overflow_add-result-2 c = let inside = reading_inside _ _ _ _ _ c.loop-place.invariant in search rules

pub returns-clause-value : goal.returns-clause-value
returns-clause-value c = (reading_done _ _ _ _ _ c.loop-place.invariant c.loop-place-test.false).value_is

pub returns-clause-after : goal.returns-clause-after
returns-clause-after c = (reading_done _ _ _ _ _ c.loop-place.invariant c.loop-place-test.false).after
