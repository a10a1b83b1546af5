use Rattle.tree_query.proofs.project.aug_project.Given as goal

abbrev pub ghosts-project_with_counter : goal.ghosts-project_with_counter
ghosts-project_with_counter g a = record { name = a.blank.name; parts = a.blank.parts }
