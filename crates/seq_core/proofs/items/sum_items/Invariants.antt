use Rattle.std.proofs.Common.{◌≡◌, ◌+◌, ◌≤◌, take}
use Rattle.seq_core.specs.Sums.{sum_of}
use Rattle.seq_core.proofs.items.sum_items.Given as goal

abbrev pub invariant-loop-item : goal.invariant-loop-item
invariant-loop-item g l = (l.sum ≡ sum_of g.F.Fold.image_of g.F.Fold.unit_of g.F.Fold.combined (take l.item-index l.items)) × (l.steps ≤ l.initial.steps + l.item-index)
