use Rattle.std.proofs.Common.{drop}
use Rattle.map_model.specs.SetOperations.{union}
use Rattle.bulk_changes.proofs.Puts.{Putting}
use Rattle.bulk_changes.proofs.putting.put_each.Given as goal

abbrev pub invariant-loop-entry : goal.invariant-loop-entry
invariant-loop-entry g l = Putting g.K.Ord.cmp (g.H.Resolve.resolved l.how) l.out.items (drop l.entry-index l.few) (union g.K.Ord.cmp (g.H.Resolve.resolved l.how) l.fn.entries.items l.few)
