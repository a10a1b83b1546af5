use Rattle.std.proofs.Common.{◌≡◌, ◌++◌, map}
use Rattle.tree_many.proofs.places.push_values.Given as goal

abbrev pub invariant-loop-place : goal.invariant-loop-place
invariant-loop-place g l = l.list.items ≡ l.initial.list.items ++ map (λ e. e.1) l.yielded
