use Rattle.std.proofs.Common.{◌≡◌, fold}
use Rattle.std.specs.List.{slice_set}
use Rattle.tree_many.proofs.places.put_back.Given as goal

abbrev pub invariant-loop-place : goal.invariant-loop-place
invariant-loop-place g l = l.list.items ≡ fold (λ xs e. slice_set xs e.0 e.1) l.fn.list.items l.yielded
