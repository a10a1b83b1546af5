use Rattle.pam_bench.proofs.making.all_put_in_place.Given as goal

abbrev pub ghosts-put_all_in_place : goal.ghosts-put_all_in_place
ghosts-put_all_in_place a = record { name = a.blank.name; parts = a.blank.parts }
