use Rattle.inverted_index.proofs.matching.Matches.top.Given as goal

abbrev pub ghosts-top_with_counter : goal.ghosts-top_with_counter
ghosts-top_with_counter a = record { name = a.blank.name; parts = a.blank.parts }
