use Rattle.std.proofs.Common.{rules, ℕ}
use Rattle.std.proofs.lemmas.Cmp.{back_total, nat_cmp_total}
use Rattle.std.proofs.lemmas.Fn.{always_returns_same}
use Rattle.std.proofs.lemmas.List.MinMax.{ranks_by}
use Rattle.inverted_index.specs.Ranks.{heavier}
use Rattle.inverted_index.proofs.sorting.sort_by_weight.Goals as goal

pub returns-clause-sorted : goal.returns-clause-sorted
returns-clause-sorted c =
    let weak = ranks_by (back_total nat_cmp_total) (λ (e : ℕ × ℕ). e.1) in
    c.in_ok-sort_by.ensures.sorted heavier weak (always_returns_same _ _ _ (λ a r f' k. search rules))

pub returns-clause-stable : goal.returns-clause-stable
returns-clause-stable c =
    let weak = ranks_by (back_total nat_cmp_total) (λ (e : ℕ × ℕ). e.1) in
    c.in_ok-sort_by.ensures.stable heavier weak (always_returns_same _ _ _ (λ a r f' k. search rules))
