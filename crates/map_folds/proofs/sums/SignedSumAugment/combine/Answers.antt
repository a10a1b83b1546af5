use Rattle.std.proofs.Common.{rules}
use Rattle.std.proofs.lemmas.Int.{wraps}
use Rattle.map_folds.proofs.sums.SignedSumAugment.combine.Goals as goal

pub returns-clause-value : goal.returns-clause-value
returns-clause-value g c = search (rules, wraps)
