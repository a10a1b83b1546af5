use Rattle.work_tests.proofs.changes.changes.Given as goal

abbrev pub ghosts-changes_counted : goal.ghosts-changes_counted
ghosts-changes_counted a b = record { name = b.blank.name; parts = b.blank.parts }
