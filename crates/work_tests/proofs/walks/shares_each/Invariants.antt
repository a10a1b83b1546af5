use Rattle.work_tests.proofs.walks.shares_each.Given as goal

abbrev pub ghosts-shares_each_counted : goal.ghosts-shares_each_counted
ghosts-shares_each_counted a b = record { name = b.blank.name; parts = b.blank.parts }
