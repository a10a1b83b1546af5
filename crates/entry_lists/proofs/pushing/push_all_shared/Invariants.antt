use Rattle.std.proofs.Common.{◌≡◌, ◌++◌, take}
use Rattle.entry_lists.proofs.pushing.push_all_shared.Given as goal

abbrev pub invariant-loop-entry : goal.invariant-loop-entry
invariant-loop-entry g l = l.into.items ≡ l.fn.into.items ++ take l.entry-index l.from
