use Rattle.std.proofs.Common.{◌≡◌, ◌++◌, true, cond, Some, None, map, take}
use Rattle.std.specs.Ordering.{is_eq, is_le}
use Rattle.map_model.specs.Entries.{AllKeys}
use Rattle.tree_many.proofs.merged.push_upto.Given as goal

abbrev pub invariant-loop-other : goal.invariant-loop-other
invariant-loop-other g l =
    (l.count ≡ l.other-index)
    × (AllKeys (λ k. is_le (g.K.Ord.cmp k l.key) ≡ true) (take l.other-index l.keys))
    × (l.outs.items ≡ l.initial.outs.items ++ map (λ e. (e.1, g.W.Answer.answer (cond (is_eq (g.K.Ord.cmp e.0 l.key)) (Some l.val) None))) (take l.other-index l.keys))
