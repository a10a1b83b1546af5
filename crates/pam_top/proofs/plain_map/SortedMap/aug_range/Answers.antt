use Rattle.pam_top.proofs.Sums.{totalled-next, totalled-start}
use Rattle.pam_top.proofs.plain_map.SortedMap.aug_range.Goals as goal

pub loop-key-init : goal.loop-key-init
loop-key-init c = totalled-start c.deref-key-items.result.now c.args.lo c.args.hi

pub loop-key-preserved : goal.loop-key-preserved
loop-key-preserved c = rw c.with_entry-totals.ensures (totalled-next c.deref-key-items.result.now c.args.lo c.args.hi c.loop-key.key-index c.loop-key.totals c.loop-key-test.true c.loop-key.invariant)
