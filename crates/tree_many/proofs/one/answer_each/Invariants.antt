use Rattle.std.proofs.Common.{◌≡◌, map, take}
use Rattle.map_model.specs.Entries.{lookup}
use Rattle.tree_many.proofs.one.answer_each.Given as goal

abbrev pub invariant-loop-key : goal.invariant-loop-key
invariant-loop-key g l = l.outs.items ≡ map (λ k. g.W.Answer.answer (lookup g.M.Key.Ord.cmp l.tree.entries k)) (take l.key-index l.keys)
