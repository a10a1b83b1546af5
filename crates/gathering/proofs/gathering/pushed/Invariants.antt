use Rattle.std.proofs.Common.{◌≡◌, take}
use Rattle.std.specs.List.{flat_map}
use Rattle.gathering.proofs.gathering.pushed.Given as goal

abbrev pub invariant-loop-item : goal.invariant-loop-item
invariant-loop-item g l = l.keys.items ≡ flat_map (g.W.Gives.given l.how) (take l.item-index l.items)
