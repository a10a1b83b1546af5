use Rattle.std.proofs.Common.{◌≡◌, ◌++◌, ℕ, drop, map}
use Rattle.std.specs.List.Sorted.{IsSortedByKey}
use Rattle.map_model.specs.Entries.{lookup}
use Rattle.tree_many.proofs.merged.push_merged.Given as goal

abbrev pub invariant-loop-at : goal.invariant-loop-at
invariant-loop-at g l =
    (l.walk.index ≡ l._at)
    × (g.L.Leaf.fits_walk l.leaf l.walk)
    × (IsSortedByKey (λ (e : g.row.K.Denot × ℕ). e.0) g.K.Ord.cmp l.rest)
    × (l.initial.outs.items ++ map (λ (e : g.row.K.Denot × ℕ). (e.1, g.W.Answer.answer (lookup g.K.Ord.cmp (g.L.Leaf.entries l.leaf) e.0))) l.keys ≡ l.outs.items ++ map (λ (e : g.row.K.Denot × ℕ). (e.1, g.W.Answer.answer (lookup g.K.Ord.cmp (drop l._at (g.L.Leaf.entries l.leaf)) e.0))) l.rest)
