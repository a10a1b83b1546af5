use Rattle.inverted_index.proofs.index.Index.remove_doc.Given as goal

abbrev pub ghosts-known_without : goal.ghosts-known_without
ghosts-known_without a = record { name = a.blank.name; parts = a.blank.parts }

abbrev pub ghosts-lists_without : goal.ghosts-lists_without
ghosts-lists_without a = record { name = a.blank.name; parts = a.blank.parts }
