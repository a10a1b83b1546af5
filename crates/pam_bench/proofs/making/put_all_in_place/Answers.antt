use Rattle.std.proofs.Common.{refl}
use Rattle.pam_bench.proofs.making.put_all_in_place.Goals as goal

pub same-steps : goal.same-steps
same-steps g c = refl

pub loop-key-preserved : goal.loop-key-preserved
loop-key-preserved g c = tt
