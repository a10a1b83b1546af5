use Rattle.std.proofs.Common.{◌≡◌, [], ◌++◌, ap, ◌∙◌, arith, rules}
use Rattle.ord_map.specs.InTurn.{put_in_turn}
use Rattle.ord_map.proofs.Turns.{in_turn_more}
use Rattle.ord_map.proofs.united.entries_of_all.Goals as goal

pub loop-map-preserved : goal.loop-map-preserved
loop-map-preserved g c =
    let f = g.H.Resolve.resolved c.args.how.now in
    let at = c.loop-map in
    let next = c.map-item.result in
    let pushed : c.append_to.new.into.items ≡ at.all.items ++ next = search rules in
    c.in_ok-all.ensures
    ∙ ap (put_in_turn g.A.Key.Ord.cmp f []) pushed
    ∙ in_turn_more g.met.A.Key.Ord.total g.met.A.Key.Key.exact f at.all.items next c.args.maps.now at.map-index (omega arith) c.map-item.is c.len-number.ensures.increasing at.invariant
