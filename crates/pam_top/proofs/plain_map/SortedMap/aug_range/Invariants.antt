use Rattle.pam_top.proofs.Sums.{Totalled}
use Rattle.pam_top.proofs.plain_map.SortedMap.aug_range.Given as goal

abbrev pub invariant-loop-key : goal.invariant-loop-key
invariant-loop-key l = Totalled l.key-items l.lo l.hi l.key-index l.totals
