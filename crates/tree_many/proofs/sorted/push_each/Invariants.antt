use Rattle.std.proofs.Common.{◌≡◌, ◌++◌, map, take}
use Rattle.map_model.specs.Entries.{lookup}
use Rattle.tree_many.proofs.sorted.push_each.Given as goal

abbrev pub invariant-loop-key : goal.invariant-loop-key
invariant-loop-key g l = l.outs.items ≡ l.initial.outs.items ++ map (λ e. (e.1, g.W.Answer.answer (lookup g.K.Ord.cmp (g.L.Leaf.entries l.leaf) e.0))) (take l.key-index l.keys)
