use Rattle.ground_tests.proofs.blocks.seek_of.Given as goal

abbrev pub ghosts-counted_seek : goal.ghosts-counted_seek
ghosts-counted_seek g a = record { name = a.blank.name; parts = a.blank.parts }
