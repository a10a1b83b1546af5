use Rattle.std.proofs.Common.{arith}
use Rattle.graph_comp.proofs.Walks.{labelled_more}
use Rattle.graph_comp.proofs.labelling.labelled.Goals as goal

pub loop-place-preserved : goal.loop-place-preserved
loop-place-preserved c =
    let so_far = c.loop-place.invariant in
    let both = labelled_more c.args.vertices.now c.args.parents.now c.loop-place.place c.push.new.self.items c.loop-place.list.items (omega arith) c.requires.len so_far.vertices so_far.labels c.in_ok-push.ensures.items in
    record { vertices = both.0; labels = both.1 }
