use Rattle.std.proofs.Common.{◌≡◌, ◌+◌, ◌≤◌, [], take}
use Rattle.map_model.specs.Fold.{aug_filter}
use Rattle.tree_filter.proofs.finding.first_in_block.Given as goal

abbrev pub invariant-loop-at : goal.invariant-loop-at
invariant-loop-at g l = record {
  none : aug_filter g.A.Augment.base_of (g.T.AugTest.admits l.test) (take l._at (g.L.Leaf.entries l.leaf)) ≡ [];
  here : l.walk.index ≡ l._at;
  cost : l.tests ≤ l.initial.tests + l._at;
  fits : g.L.Leaf.fits_walk l.leaf l.walk;
}
