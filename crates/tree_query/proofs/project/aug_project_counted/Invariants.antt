use Rattle.tree_query.proofs.project.aug_project_counted.Given as goal

abbrev pub ghosts-project_comparing : goal.ghosts-project_comparing
ghosts-project_comparing g a = record { name = a.blank.name; parts = a.blank.parts }
