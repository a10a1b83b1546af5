use Rattle.std.proofs.Common.{◌≡◌, ◌++◌, length, map}
use Rattle.std.specs.List.Sorted.{IsSorted}
use Rattle.map_model.specs.Entries.{lookup}
use Rattle.tree_many.proofs.many.answer_in_pieces.Given as goal

abbrev pub invariant-loop-rest : goal.invariant-loop-rest
invariant-loop-rest g l =
    (IsSorted g.M.Key.Ord.cmp l.rest)
    × (l.outs.items ++ map (λ k. g.W.Answer.answer (lookup g.M.Key.Ord.cmp l.tree.entries k)) l.rest ≡ map (λ k. g.W.Answer.answer (lookup g.M.Key.Ord.cmp l.tree.entries k)) l.keys)

abbrev pub decreases-loop-rest : goal.decreases-loop-rest
decreases-loop-rest g l = length l.rest
