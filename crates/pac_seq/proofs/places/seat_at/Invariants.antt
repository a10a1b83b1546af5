use Rattle.std.proofs.Common.{◌<◌, length}
use Rattle.pac_seq.proofs.Backs.{EndsAt}
use Rattle.pac_seq.proofs.Fronts.{Leads}
use Rattle.pac_seq.proofs.places.seat_at.Given as goal

abbrev pub invariant-loop-items : goal.invariant-loop-items
invariant-loop-items g l = (l.place_in < length l.part.items) × Leads l.part.items l.place_in l.tree.items l.place × EndsAt l.part.items l.place_in l.tree.items l.place

abbrev pub decreases-loop-items : goal.decreases-loop-items
decreases-loop-items g l = length l.part.items
