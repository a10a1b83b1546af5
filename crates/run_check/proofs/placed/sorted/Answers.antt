use Rattle.std.proofs.lemmas.List.Sorted.{IsNonDecreasingBy-from_sort}
use Rattle.run_check.proofs.placed.sorted.Goals as goal

pub returns-clause-rise : goal.returns-clause-rise
returns-clause-rise c = IsNonDecreasingBy-from_sort (λ n. n) c.sort.new.self.items c.in_ok-sort.ensures.sorted
