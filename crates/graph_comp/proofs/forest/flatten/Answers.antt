use Rattle.std.proofs.Common.{refl, arith}
use Rattle.graph_comp.proofs.Trees.{flattened_more, same_itself}
use Rattle.graph_comp.proofs.forest.flatten.Goals as goal

pub loop-place-init : goal.loop-place-init
loop-place-init c = record { forest = c.requires; len = refl; same = same_itself c.args.parents.now; flat = λ v lt. absurd (omega arith) }

pub loop-place-preserved : goal.loop-place-preserved
loop-place-preserved c = flattened_more c.args.parents.now c.loop-place.parents c.loop-place.place (omega arith) c.loop-place.invariant
