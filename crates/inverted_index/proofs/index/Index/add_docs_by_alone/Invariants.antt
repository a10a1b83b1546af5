use Rattle.inverted_index.proofs.index.Index.add_docs_by_alone.Given as goal

abbrev pub ghosts-known_after : goal.ghosts-known_after
ghosts-known_after g a = record { name = a.blank.name; parts = a.blank.parts }
