use Rattle.std.proofs.Common.{◌≡◌, take}
use Rattle.std.specs.Prelude.{All}
use Rattle.run_check.specs.Placing.{tags_of, IsOnlyOf}
use Rattle.run_check.proofs.placed.picked.Given as goal

abbrev pub invariant-loop-number : goal.invariant-loop-number
invariant-loop-number g l = record { tags : tags_of l.picked.items ≡ take l.number-index l.order; only : All (IsOnlyOf l.placed) l.picked.items }
