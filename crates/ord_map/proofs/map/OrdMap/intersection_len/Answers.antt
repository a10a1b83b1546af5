use Rattle.std.proofs.Common.{◌∙◌}
use Rattle.ord_map.proofs.CommonKeys.{either_way}
use Rattle.ord_map.proofs.map.OrdMap.intersection_len.Goals as goal

pub returns-then-len-2 : goal.returns-then-len-2
returns-then-len-2 g c =
    c.count_found-then-len-2.ensures
    ∙ either_way g.met.A.Key.Ord.total g.met.A.Key.Key.exact (λ a _. a) c.args.other.now c.args.self.now c.len-2.ensures.increasing c.len.ensures.increasing
