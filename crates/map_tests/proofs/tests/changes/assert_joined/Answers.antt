use Rattle.std.specs.Ordering.{nat_cmp}
use Rattle.std.specs.Cmp.{nat_cmp_total}
use Rattle.map_model.proofs.Keys.{IsBefore-around}
use Rattle.map_model.proofs.Splits.{AllKeys-below, AllKeys-above}
use Rattle.map_tests.proofs.tests.changes.assert_joined.Goals as goal

pub join-around-requires-clause-below : goal.join-around-requires-clause-below
join-around-requires-clause-below g c = rw c.parts_at-parts.ensures.below (AllKeys-below nat_cmp _ c.args.key)

pub join-around-requires-clause-above : goal.join-around-requires-clause-above
join-around-requires-clause-above g c = rw c.parts_at-parts.ensures.above (AllKeys-above nat_cmp_total _ c.args.key)

pub join2-closed-requires : goal.join2-closed-requires
join2-closed-requires g c = record { before = rw (c.parts_at-parts.ensures.below, c.parts_at-parts.ensures.above) (IsBefore-around nat_cmp_total _ c.args.key _ (AllKeys-below nat_cmp _ c.args.key) (AllKeys-above nat_cmp_total _ c.args.key)) }
