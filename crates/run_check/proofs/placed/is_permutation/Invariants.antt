use Rattle.std.proofs.Common.{◌≡◌, take}
use Rattle.run_check.specs.Placing.{tags_of}
use Rattle.run_check.proofs.placed.is_permutation.Given as goal

abbrev pub invariant-loop-p : goal.invariant-loop-p
invariant-loop-p g l = l.tags.items ≡ tags_of (take l.p-index l.placed)
