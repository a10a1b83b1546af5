use Rattle.std.proofs.Common.{◌≡◌, ℕ, List, drop}
use Rattle.map_model.specs.Entries.{lookup}
use Rattle.inverted_index.specs.Removing.{taken}
use Rattle.inverted_index.specs.Terms.{bytes_cmp}
use Rattle.inverted_index.proofs.removing.take_out_each.Given as goal

abbrev pub invariant-loop-term : goal.invariant-loop-term
invariant-loop-term g l = (t : List ℕ) → taken l.doc (lookup bytes_cmp l.entries t) (lookup bytes_cmp l.fn.lists.entries t) ≡ taken l.doc (lookup bytes_cmp (drop l.term-index l.entries) t) (lookup bytes_cmp l.lists.entries t)
