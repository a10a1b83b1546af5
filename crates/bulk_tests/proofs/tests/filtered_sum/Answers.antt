use Rattle.bulk_tests.proofs.tests.filtered_sum.Goals as goal

pub built-all-requires-sync-L : goal.built-all-requires-sync-L
built-all-requires-sync-L g c κs within = record { shared = c.type_bounds.sync-L.shared }

pub built-all-requires-sync-R : goal.built-all-requires-sync-R
built-all-requires-sync-R g c κs within = record { shared = c.type_bounds.sync-R.shared }
