use Rattle.std.proofs.Common.{◌≡◌, take}
use Rattle.inverted_index.specs.Merging.{common}
use Rattle.inverted_index.proofs.finding.common_alone.Given as goal

abbrev pub invariant-loop-list : goal.invariant-loop-list
invariant-loop-list l = l.found.entries ≡ common l.start.entries (take l.list-index l.lists)
