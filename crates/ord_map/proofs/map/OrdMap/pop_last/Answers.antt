use Rattle.std.proofs.Common.{sym, ◌∙◌}
use Rattle.ord_map.proofs.Popped.{last_popped}
use Rattle.ord_map.proofs.map.OrdMap.pop_last.Goals as goal

pub returns-clause-rest : goal.returns-clause-rest
returns-clause-rest g c =
    c.in_ok-del.ensures.entries ∙ last_popped g.met.A.Key.Ord.total c.args.self.now c.in-Some.entry c.len-number.ensures.increasing (sym c.in_ok-entry.ensures.value ∙ c.in-Some.is)
