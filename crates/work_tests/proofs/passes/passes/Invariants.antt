use Rattle.work_tests.proofs.passes.passes.Given as goal

abbrev pub ghosts-passes_counted : goal.ghosts-passes_counted
ghosts-passes_counted a b = record { name = b.blank.name; parts = b.blank.parts }
