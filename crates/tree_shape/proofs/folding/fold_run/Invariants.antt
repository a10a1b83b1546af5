use Rattle.std.proofs.Common.{◌≡◌, ◌+◌, ◌<◌, take, drop}
use Rattle.map_model.specs.Fold.{fold_of}
use Rattle.tree_shape.proofs.folding.fold_run.Given as goal

abbrev pub invariant-loop-at : goal.invariant-loop-at
invariant-loop-at g l =
    let augment = g.A.Augment in
    let start = l._start in
    (l.fold ≡ fold_of augment.base_of augment.unit_of augment.combined (take l._at (drop start (g.L.Leaf.entries l.leaf)))) × (l.steps < l.initial.steps + l._at) × (l.walk.index ≡ start + l._at) × (g.L.Leaf.fits_walk l.leaf l.walk)
