use Rattle.std.proofs.Common.{◌≡◌, ℕ, ◌+◌, ◌-◌, ◌*◌, ◌≤◌, ◌++◌, length, take}
use Rattle.map_model.specs.Balance.{IsAtMostLevels, weight}
use Rattle.inverted_index.specs.Costs.{removal_cost}
use Rattle.inverted_index.specs.Queries.{hits_of, ranked}
use Rattle.inverted_index.specs.Ranks.{AreLow}
use Rattle.inverted_index.proofs.ranking.top_by_removals.Given as goal

abbrev pub invariant-loop-place : goal.invariant-loop-place
invariant-loop-place g l = record {
  same : hits_of (take l.k (ranked l.fn.weights.entries)) ≡ l.hits.items ++ hits_of (take (l.k - l._place) (ranked l.rest.entries));
  low : AreLow l.rest.entries;
  few : length l.rest.entries ≤ length l.fn.weights.entries;
  cost : (height : ℕ) → IsAtMostLevels 64 height (weight l.fn.weights.entries) → l.steps ≤ l.initial.steps + l._place * removal_cost height;
}
