use Rattle.std.proofs.Common.{◌≡◌, take}
use Rattle.inverted_index.specs.Merging.{common}
use Rattle.inverted_index.proofs.finding.common.Given as goal

abbrev pub invariant-loop-list : goal.invariant-loop-list
invariant-loop-list g l = l.found.entries ≡ common l.start.entries (take l.list-index l.lists)
