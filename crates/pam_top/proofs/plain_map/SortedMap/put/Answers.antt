use Rattle.std.proofs.Common.{sym, subst}
use Rattle.std.specs.Cmp.{nat_cmp_total}
use Rattle.std.specs.Ordering.{nat_cmp}
use Rattle.map_model.specs.Entries.{IsIncreasing}
use Rattle.map_model.proofs.Splits.{IsIncreasing-set}
use Rattle.pam_top.proofs.Place.{set_here, set_in_gap}
use Rattle.pam_top.proofs.plain_map.SortedMap.put.Goals as goal

-- the key was there, and its entry is written over
pub invariant_of-self : goal.invariant_of-self
invariant_of-self c = subst (IsIncreasing nat_cmp) (sym (set_here _ c.self.invariant _ _ (rw c.self.view_is c.in-Ok.ensures.found) _)) (IsIncreasing-set nat_cmp_total _ _ _ c.self.invariant)

pub returns-in-Ok : goal.returns-in-Ok
returns-in-Ok c = rw c.self.view_is (set_here _ (subst (IsIncreasing nat_cmp) c.self.view_is c.self.invariant) _ _ c.in-Ok.ensures.found _)

-- the entry is added in the gap
pub invariant_of-self-in-Err : goal.invariant_of-self-in-Err
invariant_of-self-in-Err c = rw c.in_ok-insert-in-Err.ensures.items (subst (IsIncreasing nat_cmp) (sym (set_in_gap _ c.self.invariant _ _ (rw c.self.view_is c.in-Err.ensures.absent) _)) (IsIncreasing-set nat_cmp_total _ _ _ c.self.invariant))

pub returns-in_ok-insert-in-Err : goal.returns-in_ok-insert-in-Err
returns-in_ok-insert-in-Err c = rw (c.in_ok-insert-in-Err.ensures.items, c.self.view_is) (set_in_gap _ (subst (IsIncreasing nat_cmp) c.self.view_is c.self.invariant) _ _ c.in-Err.ensures.absent _)
