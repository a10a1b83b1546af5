use Rattle.tree_query.proofs.project.aug_project_in_steps.Given as goal

abbrev pub ghosts-project_imaging : goal.ghosts-project_imaging
ghosts-project_imaging g a = record { name = a.blank.name; parts = a.blank.parts }
