use Rattle.std.proofs.Common.{◌≡◌, [], take}
use Rattle.std.specs.List.{fold}
use Rattle.map_model.specs.SetOperations.{union}
use Rattle.ord_map.proofs.united.union_in_turn.Given as goal

abbrev pub invariant-loop-map : goal.invariant-loop-map
invariant-loop-map g l = l.all ≡ fold (λ all map. union g.A.Key.Ord.cmp (g.H.Resolve.resolved l.how) all map) [] (take l.map-index l.maps)
