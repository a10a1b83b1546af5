use Rattle.tree_tests.proofs.tests.calls.made.Given as goal

abbrev pub ghosts-made_counted : goal.ghosts-made_counted
ghosts-made_counted g a = record { name = a.blank.name; parts = a.blank.parts }
