use Rattle.work_tests.proofs.unions.shares_few.Given as goal

abbrev pub ghosts-shares_few_counted : goal.ghosts-shares_few_counted
ghosts-shares_few_counted a b = record { name = b.blank.name; parts = b.blank.parts }
