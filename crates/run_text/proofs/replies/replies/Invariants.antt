use Rattle.std.proofs.Common.{take}
use Rattle.run_text.specs.Parts.{TellsThese}
use Rattle.run_text.proofs.replies.replies.Given as goal

abbrev pub invariant-loop-place : goal.invariant-loop-place
invariant-loop-place l = TellsThese (take l.place-index l.places) l.told.items l.initial.rest l.rest
