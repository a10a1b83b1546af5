use Rattle.std.proofs.Common.{length, ap, arith}
use Rattle.gap_code.specs.LebLaws.{leb_small, leb_large}
use Rattle.gap_code.proofs.number.number_len.Goals as goal

pub loop-rest-preserved : goal.loop-rest-preserved
loop-rest-preserved c = (
  omega (arith, ap length (leb_large c.loop-rest.rest c.loop-rest-test.true), c.loop-rest.invariant.0),
  omega (arith, c.loop-rest.invariant.1, c.loop-rest-test.true),
)

pub returns : goal.returns
returns c = omega (arith, ap length (leb_small c.loop-rest.rest (omega arith)), c.loop-rest.invariant.0)
