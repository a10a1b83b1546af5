use Rattle.std.proofs.Common.{◌≡◌, ℕ, ◌+◌, ◌*◌, ◌≤◌, length, take}
use Rattle.aug_monoid.specs.Images.{AreImageCosts}
use Rattle.map_model.specs.Fold.{fold_of}
use Rattle.tree_query.specs.Within.{within, begin_tests, end_tests}
use Rattle.tree_query.proofs.project.project_block.Given as goal

abbrev pub invariant-loop-at : goal.invariant-loop-at
invariant-loop-at g l =
    let augment = g.A.Augment in
    record {
      out : l.out ≡ g.P.Project.image_of l.how (fold_of augment.base_of augment.unit_of augment.combined (within g.A.Key.Ord.cmp l.range (take l._at (g.L.Leaf.entries l.leaf))));
      here : l.walk.index ≡ l._at;
      fits : g.L.Leaf.fits_walk l.leaf l.walk;
      cost : l.images ≤ l.initial.images + l._at;
      work : (most : ℕ) → AreImageCosts augment.base_of augment.unit_of augment.combined (g.P.Project.IsImageCost l.how) (length (g.L.Leaf.entries l.leaf)) most → l.steps ≤ l.initial.steps + (l._at * most + l._at * (end_tests l.range + begin_tests l.range));
    }
