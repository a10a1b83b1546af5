use Rattle.std.proofs.Common.{◌≡◌, ◌++◌, take}
use Rattle.seq_core.proofs.items.push_items.Given as goal

abbrev pub invariant-loop-item : goal.invariant-loop-item
invariant-loop-item g l = l.out.items ≡ l.initial.out.items ++ take l.item-index l.from
