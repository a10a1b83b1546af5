use Rattle.std.proofs.Common.{subst}
use Rattle.std.specs.List.Sorted.{IsPermutation}
use Rattle.interval_map.proofs.sorting.sorted_numbers.Goals as goal

pub returns : goal.returns
returns c = subst (λ ns. IsPermutation ns c.sort.new.self.items) c.in_ok-numbers.ensures c.in_ok-sort.ensures.permutation
