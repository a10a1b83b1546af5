use Rattle.std.proofs.Common.{◌∙◌}
use Rattle.ord_map.proofs.Turns.{in_turn_again}
use Rattle.ord_map.proofs.united.resolve_if_many.Goals as goal

pub returns : goal.returns
returns g c =
    in_turn_again g.met.K.Ord.total g.met.K.Key.exact (g.H.Resolve.resolved c.args.how.now) c.in_ok-list.list.items c.in_ok-list.ensures.increasing ∙ c.in_ok-list.ensures.value
