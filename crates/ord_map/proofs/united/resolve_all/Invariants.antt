use Rattle.std.proofs.Common.{◌≡◌, [], length}
use Rattle.std.specs.Vec.Iter.{into_iter_items, into_iter_len}
use Rattle.ord_map.specs.InTurn.{put_in_turn}
use Rattle.ord_map.proofs.Turns.{Resolving}
use Rattle.ord_map.proofs.united.resolve_all.Given as goal

abbrev pub invariant-loop-entry : goal.invariant-loop-entry
invariant-loop-entry g l = Resolving g.K.Ord.cmp (g.H.Resolve.resolved l.how) l.out.items (into_iter_items l.entry-iterator) (put_in_turn g.K.Ord.cmp (g.H.Resolve.resolved l.how) [] l.fn.entries.items)
    × (into_iter_len l.entry-iterator ≡ length (into_iter_items l.entry-iterator))
