use Rattle.serve_answers.proofs.maps.MapAnswersAnswersServed.answer.Given as goal

abbrev pub ghosts-answer : goal.ghosts-answer
ghosts-answer a = record { name = a.blank.name; parts = a.blank.parts }
