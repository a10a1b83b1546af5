use Rattle.std.proofs.Common.{◌≡◌, map, take}
use Rattle.inverted_index.specs.Merging.{postings_at}
use Rattle.inverted_index.proofs.finding.find_lists.Given as goal

abbrev pub invariant-loop-term : goal.invariant-loop-term
invariant-loop-term g l = l.found.items ≡ map (postings_at l.fn.lists.entries) (take l.term-index l.terms)
