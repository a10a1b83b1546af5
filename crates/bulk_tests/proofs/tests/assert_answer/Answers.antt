use Rattle.bulk_tests.proofs.tests.assert_answer.Goals as goal

pub answer_of-requires-sync-L : goal.answer_of-requires-sync-L
answer_of-requires-sync-L g c κs within = record { shared = c.type_bounds.sync-L.shared }

pub answer_of-requires-sync-R : goal.answer_of-requires-sync-R
answer_of-requires-sync-R g c κs within = record { shared = c.type_bounds.sync-R.shared }

pub built-first-requires-sync-L : goal.built-first-requires-sync-L
built-first-requires-sync-L g c κs within = record { shared = c.type_bounds.sync-L.shared }

pub built-first-requires-sync-R : goal.built-first-requires-sync-R
built-first-requires-sync-R g c κs within = record { shared = c.type_bounds.sync-R.shared }

pub built-second-requires-sync-L : goal.built-second-requires-sync-L
built-second-requires-sync-L g c κs within = record { shared = c.type_bounds.sync-L.shared }

pub built-second-requires-sync-R : goal.built-second-requires-sync-R
built-second-requires-sync-R g c κs within = record { shared = c.type_bounds.sync-R.shared }
