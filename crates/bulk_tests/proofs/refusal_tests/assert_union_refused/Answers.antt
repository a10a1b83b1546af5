use Rattle.bulk_tests.proofs.refusal_tests.assert_union_refused.Goals as goal

pub built-requires-2-sync-L : goal.built-requires-2-sync-L
built-requires-2-sync-L g c κs within = record { shared = c.type_bounds.sync-L.shared }

pub built-requires-2-sync-R : goal.built-requires-2-sync-R
built-requires-2-sync-R g c κs within = record { shared = c.type_bounds.sync-R.shared }

pub built-requires-sync-L : goal.built-requires-sync-L
built-requires-sync-L g c κs within = record { shared = c.type_bounds.sync-L.shared }

pub built-requires-sync-R : goal.built-requires-sync-R
built-requires-sync-R g c κs within = record { shared = c.type_bounds.sync-R.shared }
