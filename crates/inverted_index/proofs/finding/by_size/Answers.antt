use Rattle.std.proofs.Common.{ℕ, List, length, rules}
use Rattle.std.proofs.lemmas.List.Sorted.{IsNonDecreasingBy-from_sort_by_key}
use Rattle.inverted_index.proofs.finding.by_size.Goals as goal

pub returns-clause-rises : goal.returns-clause-rises
returns-clause-rises c = IsNonDecreasingBy-from_sort_by_key (λ (list : List (ℕ × ℕ)). length list) _ c.in_ok-sort_by_key.ensures.sorted (λ a r q k. search rules)
