use Rattle.sharing_tests.proofs.put_with.shared.Given as goal

abbrev pub ghosts-shared_counted : goal.ghosts-shared_counted
ghosts-shared_counted a b = record { name = b.blank.name; parts = b.blank.parts }
