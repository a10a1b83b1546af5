use Rattle.inverted_index.proofs.Prefixes.{IsWalk}
use Rattle.inverted_index.proofs.listing.terms_with.Given as goal

abbrev pub ghosts-terms_below : goal.ghosts-terms_below
ghosts-terms_below a = record { name = a.blank.name; parts = a.blank.parts }

abbrev pub invariant-loop-entry : goal.invariant-loop-entry
invariant-loop-entry l = IsWalk l.fn.front l.fn.lists.entries l.terms.items l.entry-iterator
