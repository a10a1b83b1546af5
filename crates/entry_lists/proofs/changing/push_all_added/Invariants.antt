use Rattle.std.proofs.Common.{◌≡◌, ◌++◌, map, take}
use Rattle.entry_lists.specs.declared.changing.Change.TheVariants as change
use Rattle.entry_lists.proofs.changing.push_all_added.Given as goal

abbrev pub invariant-loop-entry : goal.invariant-loop-entry
invariant-loop-entry g l = l.into.items ≡ l.initial.into.items ++ map (λ e. change.Added e.0 e.1) (take l.entry-index l.entries)
