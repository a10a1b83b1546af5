use Rattle.std.proofs.Common.{◌≡◌, take}
use Rattle.versions.specs.History.{batches_in}
use Rattle.versions.proofs.version.batches_of.Given as goal

abbrev pub invariant-loop-entry : goal.invariant-loop-entry
invariant-loop-entry g l = l.batches.items ≡ batches_in (take l.entry-index l.entries)
