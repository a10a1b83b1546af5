use Rattle.std.proofs.Common.{◌≡◌, ℕ, ◌++◌, map, take, drop, length, subst, rules, arith, ◌∙◌}
use Rattle.std.proofs.lemmas.Fn.{always_returns_same}
use Rattle.std.proofs.lemmas.Grind.{common_steps}
use Rattle.std.specs.List.Sorted.{IsPermutation, IsSortedByKey, IsStableByKey}
use Rattle.aug_monoid.specs.declared.pair64.Pair64.{Pair64}
use Rattle.aug_monoid.specs.Exact.{pair64_cmp}
use Rattle.range_tree.specs.Listings.{swapped_entry}
use Rattle.range_tree.proofs.Listed.{sorted-points}
use Rattle.range_tree.proofs.listings.points_of.Goals as goal

pub returns : goal.returns
returns c =
    let rows = c.args.rows.now.entries in
    let sorted = c.sort_by_key.new.self in
    let old = c.in_ok-points.points in
    let whole : take old.len (sorted ++ drop (length sorted) old.items) ≡ sorted = grind (arith, common_steps) in
    let given : c.as_mut_slice.result.now ≡ map swapped_entry rows = search rules in
    let up : IsSortedByKey (λ (e : Pair64 × ℕ). e.0) pair64_cmp sorted = c.in_ok-sort_by_key.ensures.sorted (λ (e : Pair64 × ℕ). e.0) (always_returns_same _ _ _ (λ a r f' k. search rules)) in
    let moved : IsPermutation (map swapped_entry rows) sorted = subst (λ xs. IsPermutation xs sorted) given c.in_ok-sort_by_key.ensures.permutation in
    let stable : IsStableByKey (λ (e : Pair64 × ℕ). e.0) pair64_cmp (map swapped_entry rows) sorted = subst (λ xs. IsStableByKey (λ (e : Pair64 × ℕ). e.0) pair64_cmp xs sorted) given (c.in_ok-sort_by_key.ensures.stable (λ (e : Pair64 × ℕ). e.0) (always_returns_same _ _ _ (λ a r f' k. search rules))) in
    whole ∙ sorted-points rows sorted c.size-number.ensures.increasing moved up stable
