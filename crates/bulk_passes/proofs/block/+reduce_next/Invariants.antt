use Rattle.bulk_passes.proofs.block.+reduce_next.Given as goal

abbrev pub decreases-reduce_next : goal.decreases-reduce_next
decreases-reduce_next g l = l.count
