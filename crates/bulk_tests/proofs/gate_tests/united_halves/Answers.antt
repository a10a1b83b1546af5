use Rattle.bulk_tests.proofs.gate_tests.united_halves.Goals as goal

pub built-a-requires-sync-L : goal.built-a-requires-sync-L
built-a-requires-sync-L g c κs within = record { shared = c.type_bounds.sync-L.shared }

pub built-b-requires-sync-L : goal.built-b-requires-sync-L
built-b-requires-sync-L g c κs within = record { shared = c.type_bounds.sync-L.shared }

pub built-b-requires-sync-R : goal.built-b-requires-sync-R
built-b-requires-sync-R g c κs within = record { shared = c.type_bounds.sync-R.shared }

pub built-a-requires-sync-R : goal.built-a-requires-sync-R
built-a-requires-sync-R g c κs within = record { shared = c.type_bounds.sync-R.shared }
