use Rattle.tour.proofs.rope.line_start.Given as goal

abbrev pub ghosts-end_counted : goal.ghosts-end_counted
ghosts-end_counted a = record { name = a.blank.name; parts = a.blank.parts }
