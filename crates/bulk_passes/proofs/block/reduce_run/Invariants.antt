use Rattle.std.proofs.Common.{◌≡◌, ◌+◌, ◌<◌, take, drop}
use Rattle.map_model.specs.Fold.{reduce}
use Rattle.bulk_passes.proofs.block.reduce_run.Given as goal

abbrev pub invariant-loop-at : goal.invariant-loop-at
invariant-loop-at g l =
    let reduction = g.W.Reduce in
    (l.out ≡ reduce (reduction.image_of l.how) (reduction.unit_of l.how) (reduction.combined l.how) (take l._at (drop l._start (g.L.Leaf.entries l.leaf)))) × (l.steps < l.initial.steps + l._at) × (l.walk.index ≡ l._start + l._at) × (g.L.Leaf.fits_walk l.leaf l.walk)
