use Rattle.work_tests.proofs.in_place.changed.Given as goal

abbrev pub ghosts-changed_counted : goal.ghosts-changed_counted
ghosts-changed_counted a b = record { name = b.blank.name; parts = b.blank.parts }
