use Rattle.std.proofs.Common.{sym, ◌∙◌}
use Rattle.map_model.proofs.Splits.{drop_key-absent}
use Rattle.ord_map.proofs.map.OrdMap.remove.Goals as goal

pub returns-in_default-clause-entries : goal.returns-in_default-clause-entries
returns-in_default-clause-entries g c =
    sym (drop_key-absent g.met.A.Key.Ord.total g.met.A.Key.Key.exact c.args.self.now c.args.key.now c.len-number.ensures.increasing (sym c.in_ok-old.ensures.value ∙ c.in_default.is))
