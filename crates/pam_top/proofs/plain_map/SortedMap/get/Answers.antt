use Rattle.std.proofs.Common.{sym, subst, arith}
use Rattle.std.proofs.lemmas.List.{get_or_default}
use Rattle.std.specs.Ordering.{nat_cmp}
use Rattle.map_model.specs.Entries.{IsIncreasing}
use Rattle.pam_top.proofs.Place.{value_here, value_in_gap}
use Rattle.pam_top.proofs.plain_map.SortedMap.get.Goals as goal

-- the key is at its place, and the entry there is the one that was read
pub returns-in-Ok : goal.returns-in-Ok
returns-in-Ok c =
    let value = value_here _ (subst (IsIncreasing nat_cmp) c.self.view_is c.self.invariant) _ _ c.in-Ok.ensures.found in
    let read = get_or_default _ _ c.index.result.now (0, 0) c.in-Ok.ensures.found.in_range in
    grind (arith, c.self.view_is)

-- the key is not there
pub returns-in-Err : goal.returns-in-Err
returns-in-Err c = sym (value_in_gap _ (subst (IsIncreasing nat_cmp) c.self.view_is c.self.invariant) _ _ c.in-Err.ensures.absent)
