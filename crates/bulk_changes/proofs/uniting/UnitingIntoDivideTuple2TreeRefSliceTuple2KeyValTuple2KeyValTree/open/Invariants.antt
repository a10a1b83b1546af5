use Rattle.bulk_changes.proofs.uniting.UnitingIntoDivideTuple2TreeRefSliceTuple2KeyValTuple2KeyValTree.open.Given as goal

abbrev pub ghosts-open_alone : goal.ghosts-open_alone
ghosts-open_alone g a = record { name = a.blank.name; parts = a.blank.parts }
