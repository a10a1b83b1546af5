use Rattle.ground_tests.proofs.instances.order_of.Given as goal

abbrev pub ghosts-counted_order : goal.ghosts-counted_order
ghosts-counted_order g a = record { name = a.blank.name; parts = a.blank.parts }
