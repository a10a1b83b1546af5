use Rattle.std.proofs.Common.{length}
use Rattle.pac_seq.proofs.planting.+planted.Given as goal

abbrev pub decreases-planted : goal.decreases-planted
decreases-planted g l = length l.from.now
