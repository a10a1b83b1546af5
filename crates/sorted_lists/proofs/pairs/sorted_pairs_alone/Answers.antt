use Rattle.std.proofs.Common.{◌≡◌, ◌++◌, take, drop, length, arith, rules, subst, sym}
use Rattle.std.proofs.lemmas.Fn.{always_returns_same}
use Rattle.std.proofs.lemmas.Grind.{common_steps}
use Rattle.std.proofs.lemmas.List.MinMax.{ranks_by}
use Rattle.std.specs.List.Sorted.{IsSortedByKey, IsStableByKey}
use Rattle.std.specs.Ordering.{is_lt}
use Rattle.sorted_lists.proofs.pairs.sorted_pairs_alone.Goals as goal

pub returns-clause-sorted : goal.returns-clause-sorted
returns-clause-sorted g c =
    let lt = λ (x y : g.row.K.Denot × g.row.V.Denot). is_lt (g.K.Ord.cmp x.0 y.0) in
    let weak = ranks_by (g.met.K.Ord).total (λ (x : g.row.K.Denot × g.row.V.Denot). x.0) in
    let up = c.in_ok-sort_by.ensures.sorted lt weak (always_returns_same _ _ _ (λ a r f' k. search rules)) in
    let old = c.args.pairs in
    let sorted = c.sort_by.new.self in
    let whole : take old.len (sorted ++ drop (length sorted) old.items) ≡ sorted = grind (arith, common_steps) in
    subst (IsSortedByKey (λ (x : g.row.K.Denot × g.row.V.Denot). x.0) g.K.Ord.cmp) (sym whole) up

pub returns-clause-stable : goal.returns-clause-stable
returns-clause-stable g c =
    let lt = λ (x y : g.row.K.Denot × g.row.V.Denot). is_lt (g.K.Ord.cmp x.0 y.0) in
    let weak = ranks_by (g.met.K.Ord).total (λ (x : g.row.K.Denot × g.row.V.Denot). x.0) in
    let stable = c.in_ok-sort_by.ensures.stable lt weak (always_returns_same _ _ _ (λ a r f' k. search rules)) in
    let old = c.args.pairs in
    let sorted = c.sort_by.new.self in
    let whole : take old.len (sorted ++ drop (length sorted) old.items) ≡ sorted = grind (arith, common_steps) in
    let lent : c.as_mut_slice.result.now ≡ old.items = search rules in
    let kept : IsStableByKey (λ (x : g.row.K.Denot × g.row.V.Denot). x.0) g.K.Ord.cmp old.items sorted = subst (λ xs. IsStableByKey (λ (x : g.row.K.Denot × g.row.V.Denot). x.0) g.K.Ord.cmp xs sorted) lent stable in
    subst (IsStableByKey (λ (x : g.row.K.Denot × g.row.V.Denot). x.0) g.K.Ord.cmp old.items) (sym whole) kept
