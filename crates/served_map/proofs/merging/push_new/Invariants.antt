use Rattle.std.proofs.Common.{◌≡◌, ◌++◌, take}
use Rattle.served_map.specs.Halves.{new_entries}
use Rattle.served_map.proofs.merging.push_new.Given as goal

abbrev pub invariant-loop-key : goal.invariant-loop-key
invariant-loop-key l = l.entries.items ≡ l.initial.entries.items ++ new_entries (take l.key-index l.outcomes)
