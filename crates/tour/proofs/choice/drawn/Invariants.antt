use Rattle.tour.proofs.choice.drawn.Given as goal

abbrev pub ghosts-drawn_counted : goal.ghosts-drawn_counted
ghosts-drawn_counted a = record { name = a.blank.name; parts = a.blank.parts }
