use Rattle.inverted_index.proofs.index.Index.has_doc.Given as goal

abbrev pub ghosts-is_known : goal.ghosts-is_known
ghosts-is_known a = record { name = a.blank.name; parts = a.blank.parts }
