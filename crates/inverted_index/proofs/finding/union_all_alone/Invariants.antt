use Rattle.std.proofs.Common.{◌≡◌, [], take}
use Rattle.inverted_index.specs.Merging.{union_all}
use Rattle.inverted_index.proofs.finding.union_all_alone.Given as goal

abbrev pub invariant-loop-list : goal.invariant-loop-list
invariant-loop-list l = l.found.entries ≡ union_all [] (take l.list-index l.lists)
