use Rattle.std.proofs.Common.{◌≡◌, length, vec_len, arith}
use Rattle.batch_store.proofs.Opened.{connected_step, few_left}
use Rattle.batch_store.proofs.opening.connect_all.Goals as goal

pub loop-reader-preserved : goal.loop-reader-preserved
loop-reader-preserved g c =
    let n : vec_len c.loop-reader.callers ≡ length c.loop-reader.callers.items = grind arith in
    let m : vec_len c.connect.new.callers ≡ length c.connect.new.callers.items = grind arith in
    let k = connected_step c.loop-reader.yielded c.loop-reader.intakes.items c.connect.new.intakes.items c.loop-reader.callers.items c.connect.new.callers.items (vec_len c.loop-reader.callers) c.in-Some.reader
    n c.loop-reader.invariant.0 c.in_ok-connect.ensures in
    (k, omega (arith, m, few_left _ _ k.readers_are))
