use Rattle.bulk_tests.proofs.given_up_tests.assert_united.Goals as goal

pub union_by-requires-2-sync-L : goal.union_by-requires-2-sync-L
union_by-requires-2-sync-L g c κs within = record { shared = c.type_bounds.sync-L.shared }

pub union_by-requires-2-sync-R : goal.union_by-requires-2-sync-R
union_by-requires-2-sync-R g c κs within = record { shared = c.type_bounds.sync-R.shared }

pub union_by-requires-sync-L : goal.union_by-requires-sync-L
union_by-requires-sync-L g c κs within = record { shared = c.type_bounds.sync-L.shared }

pub union_by-requires-sync-R : goal.union_by-requires-sync-R
union_by-requires-sync-R g c κs within = record { shared = c.type_bounds.sync-R.shared }
