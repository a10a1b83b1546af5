use Rattle.seq_bench.proofs.asking.answers.Given as goal

abbrev pub ghosts-ask_for_sums : goal.ghosts-ask_for_sums
ghosts-ask_for_sums a = record { name = a.blank.name; parts = a.blank.parts }
