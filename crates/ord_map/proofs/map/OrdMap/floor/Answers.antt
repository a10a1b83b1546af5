use Rattle.std.proofs.Common.{Some, sym, ap, ◌∙◌}
use Rattle.std.proofs.lemmas.Result.{IfOk-weaker}
use Rattle.ord_map.proofs.Nearby.{floor_absent, floor_found}
use Rattle.ord_map.proofs.map.OrdMap.floor.Goals as goal

pub returns-in_ok-share-in-Some-clause-value : goal.returns-in_ok-share-in-Some-clause-value
returns-in_ok-share-in-Some-clause-value g c =
    let found = sym c.in_ok-val.ensures.value ∙ c.in-Some.is in
    ap (λ key. Some (key, c.in-Some.val)) c.in_ok-share-in-Some.ensures.value ∙ sym (floor_found g.met.A.Key.Ord.total g.met.A.Key.Key.exact c.args.self.now c.args.key.now c.in-Some.val c.len-number.ensures.increasing found)

pub returns-in-None-clause-value : goal.returns-in-None-clause-value
returns-in-None-clause-value g c =
    let absent = sym c.in_ok-val.ensures.value ∙ c.in-None.is in
    IfOk-weaker c.prev.result _ _ (λ entry is. is ∙ sym (floor_absent g.A.Key.Ord.cmp c.args.self.now c.args.key.now absent)) c.prev.ensures.value
