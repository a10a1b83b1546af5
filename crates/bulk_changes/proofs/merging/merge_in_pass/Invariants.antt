use Rattle.std.proofs.Common.{◌≡◌, length}
use Rattle.std.specs.Vec.Iter.{into_iter_items, into_iter_len}
use Rattle.map_model.specs.SetOperations.{union}
use Rattle.bulk_changes.proofs.Turns.{Merging}
use Rattle.bulk_changes.proofs.merging.merge_in_pass.Given as goal

abbrev pub invariant-loop-entry : goal.invariant-loop-entry
invariant-loop-entry g l = Merging g.K.Ord.cmp (g.H.Resolve.resolved l.how) l.out.items (into_iter_items l.entry-iterator) l.rest (union g.K.Ord.cmp (g.H.Resolve.resolved l.how) l.fn.entries.items l.fn.few)
    × (into_iter_len l.entry-iterator ≡ length (into_iter_items l.entry-iterator))
