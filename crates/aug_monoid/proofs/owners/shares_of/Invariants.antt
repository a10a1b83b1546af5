use Rattle.std.proofs.Common.{◌≡◌, take}
use Rattle.aug_monoid.proofs.owners.shares_of.Given as goal

abbrev pub invariant-loop-item : goal.invariant-loop-item
invariant-loop-item g l = l.shares.items ≡ take l.item-index l.items
