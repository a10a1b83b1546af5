use Rattle.inverted_index.proofs.Tallies.{rises_of}
use Rattle.inverted_index.proofs.tally.counts_of.Goals as goal

pub returns-clause-rises : goal.returns-clause-rises
returns-clause-rises c = rises_of c.in_ok-counts.counts.items c.as_slice-terms.result.now c.in_ok-counts.ensures
