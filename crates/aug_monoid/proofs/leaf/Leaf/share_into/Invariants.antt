use Rattle.std.proofs.Common.{◌≡◌, ◌++◌, take}
use Rattle.aug_monoid.proofs.leaf.Leaf.share_into.Given as goal

abbrev pub invariant-loop-at : goal.invariant-loop-at
invariant-loop-at g l =
    (l.out.items ≡ l.initial.out.items ++ take l._at (g.Self.Leaf.entries l.self)) × (l.walk.index ≡ l._at) × (g.Self.Leaf.fits_walk l.self l.walk)
