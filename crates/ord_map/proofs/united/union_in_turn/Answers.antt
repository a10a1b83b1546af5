use Rattle.std.proofs.Common.{[], take, sym, ap, ◌∙◌, arith}
use Rattle.std.specs.List.{fold}
use Rattle.std.proofs.lemmas.List.Sums.{fold_more}
use Rattle.map_model.specs.SetOperations.{union}
use Rattle.ord_map.proofs.united.union_in_turn.Goals as goal

pub loop-map-preserved : goal.loop-map-preserved
loop-map-preserved g c =
    let join = union g.A.Key.Ord.cmp (g.H.Resolve.resolved c.args.how.now) in
    let maps = c.args.maps.now in
    let at = c.loop-map.map-index in
    let seen = fold join [] (take at maps) in
    let next = c.map-item.result in
    let more = fold_more join [] maps at next (omega arith) in
    c.in_ok-all.ensures ∙ ap (λ all. join all next) c.loop-map.invariant ∙ sym (more ∙ ap (λ map. join seen map) (sym c.map-item.is))
