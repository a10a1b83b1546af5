use Rattle.pam_bench.proofs.asking.answers.Given as goal

abbrev pub ghosts-ask_all : goal.ghosts-ask_all
ghosts-ask_all a = record { name = a.blank.name; parts = a.blank.parts }
