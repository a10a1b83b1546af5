use Rattle.std.proofs.Common.{◌≡◌, ◌++◌, None, map, take}
use Rattle.tree_many.proofs.sorted.push_missing.Given as goal

abbrev pub invariant-loop-key : goal.invariant-loop-key
invariant-loop-key g l = l.outs.items ≡ l.initial.outs.items ++ map (λ e. (e.1, g.W.Answer.answer None)) (take l._key-index l.keys)
