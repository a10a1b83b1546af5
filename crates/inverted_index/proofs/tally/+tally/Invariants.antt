use Rattle.std.proofs.Common.{length}
use Rattle.inverted_index.proofs.tally.+tally.Given as goal

abbrev pub decreases-tally : goal.decreases-tally
decreases-tally l = length l.terms.now
