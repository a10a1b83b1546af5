use Rattle.seq_bench.proofs.asking.places.Given as goal

abbrev pub ghosts-ask_for_places : goal.ghosts-ask_for_places
ghosts-ask_for_places a = record { name = a.blank.name; parts = a.blank.parts }
