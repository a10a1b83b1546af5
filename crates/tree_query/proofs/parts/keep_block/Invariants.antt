use Rattle.std.proofs.Common.{◌≡◌, take}
use Rattle.tree_query.specs.Within.{within}
use Rattle.tree_query.proofs.parts.keep_block.Given as goal

abbrev pub invariant-loop-at : goal.invariant-loop-at
invariant-loop-at g l =
    (l.kept.items ≡ within g.K.Ord.cmp l.range (take l._at (g.L.Leaf.entries l.leaf))) × (l.walk.index ≡ l._at) × (g.L.Leaf.fits_walk l.leaf l.walk)
