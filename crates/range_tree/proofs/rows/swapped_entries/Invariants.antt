use Rattle.std.proofs.Common.{◌≡◌, map, take}
use Rattle.range_tree.specs.Listings.{swapped_entry}
use Rattle.range_tree.proofs.rows.swapped_entries.Given as goal

abbrev pub invariant-loop-at : goal.invariant-loop-at
invariant-loop-at g l =
    (l.list.items ≡ map swapped_entry (take l._at (g.L.Leaf.entries l.leaf))) × (l.walk.index ≡ l._at) × (g.L.Leaf.fits_walk l.leaf l.walk)
