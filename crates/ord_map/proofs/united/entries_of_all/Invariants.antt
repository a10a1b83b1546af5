use Rattle.std.proofs.Common.{◌≡◌, [], take}
use Rattle.std.specs.List.{fold}
use Rattle.map_model.specs.SetOperations.{union}
use Rattle.ord_map.specs.InTurn.{put_in_turn}
use Rattle.ord_map.proofs.united.entries_of_all.Given as goal

abbrev pub invariant-loop-map : goal.invariant-loop-map
invariant-loop-map g l =
    put_in_turn g.A.Key.Ord.cmp (g.H.Resolve.resolved l.how) [] l.all.items ≡ fold (λ all map. union g.A.Key.Ord.cmp (g.H.Resolve.resolved l.how) all map) [] (take l.map-index l.maps)
