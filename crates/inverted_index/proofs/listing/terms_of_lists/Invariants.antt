use Rattle.std.proofs.Common.{◌≡◌, ◌++◌}
use Rattle.std.specs.Map.{keys_of}
use Rattle.inverted_index.proofs.listing.terms_of_lists.Given as goal

abbrev pub invariant-loop-entry : goal.invariant-loop-entry
invariant-loop-entry l = keys_of l.fn.lists.entries ≡ l.terms.items ++ keys_of l.entry-iterator
