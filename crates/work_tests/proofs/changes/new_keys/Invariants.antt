use Rattle.work_tests.proofs.changes.new_keys.Given as goal

abbrev pub ghosts-taken_in_counted : goal.ghosts-taken_in_counted
ghosts-taken_in_counted a b = record { name = b.blank.name; parts = b.blank.parts }
