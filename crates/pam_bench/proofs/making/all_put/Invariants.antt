use Rattle.pam_bench.proofs.making.all_put.Given as goal

abbrev pub ghosts-put_all : goal.ghosts-put_all
ghosts-put_all a = record { name = a.blank.name; parts = a.blank.parts }
