use Rattle.ord_map.proofs.SameKeys.{values_increase}
use Rattle.ord_map.proofs.map.OrdMap.map_values.Goals as goal

pub of_vec-requires : goal.of_vec-requires
of_vec-requires g c = rw c.in_ok-entries.ensures (values_increase (g.F.MapValue.made_of c.args.how.now) g.A.Key.Ord.cmp c.args.self.now c.len-number.ensures.increasing)
