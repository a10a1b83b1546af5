use Rattle.std.proofs.Common.{arith}
use Rattle.entry_bytes.proofs.Sums.{sums_first, sums_run, sums_done}
use Rattle.entry_bytes.proofs.adler.checksum_of.Goals as goal

pub loop-at-init : goal.loop-at-init
loop-at-init c = sums_first c.args.bytes.now

pub loop-at-preserved : goal.loop-at-preserved
loop-at-preserved c = sums_run _ _ _ _ _ _ _ c.loop-at.invariant c.add_run-sums.ensures.low c.add_run-sums.ensures.high c.add_run-sums.ensures.low_below c.add_run-sums.ensures.high_below (omega arith)

pub returns : goal.returns
returns c = sums_done _ _ _ _ c.loop-at.invariant (omega arith)
