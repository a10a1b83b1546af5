use Rattle.std.proofs.Common.{rules}
use Rattle.std.proofs.lemmas.Fn.{always_returns_same}
use Rattle.std.proofs.lemmas.List.MinMax.{ranks_by}
use Rattle.std.specs.Ordering.{is_lt}
use Rattle.sorted_lists.proofs.keys.sort_keys.Goals as goal

pub returns-clause-sorted : goal.returns-clause-sorted
returns-clause-sorted g c =
    let lt = λ (x y : g.row.K.Denot × Unit {0}). is_lt (g.K.Ord.cmp x.0 y.0) in
    let weak = ranks_by g.met.K.Ord.total (λ (x : g.row.K.Denot × Unit {0}). x.0) in
    c.sort_unstable_by.ensures.sorted lt weak (always_returns_same _ _ _ (λ a r f' k. search rules))
