use Rattle.std.proofs.Common.{◌≡◌, ◌++◌, take}
use Rattle.versions.proofs.version.with_entries.Given as goal

abbrev pub invariant-loop-entry : goal.invariant-loop-entry
invariant-loop-entry g l = l.longer ≡ l.journal ++ take l.entry-index l.entries
