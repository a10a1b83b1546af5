use Rattle.gathering.proofs.gathering.GatheringDivideRefSliceUnitVecTuple2Unit.close.Given as goal

abbrev pub ghosts-both_of : goal.ghosts-both_of
ghosts-both_of g a = record { name = a.blank.name; parts = a.blank.parts }
