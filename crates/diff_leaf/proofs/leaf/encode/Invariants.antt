use Rattle.std.proofs.Common.{◌≡◌, map, take}
use Rattle.map_model.specs.Entries.{AllKeys}
use Rattle.diff_leaf.specs.Numbers.{key_entry}
use Rattle.diff_leaf.proofs.leaf.encode.Given as goal

abbrev pub invariant-loop-entry : goal.invariant-loop-entry
invariant-loop-entry g l = record {
  same : map (key_entry g.K.NumberKey.key_of) l.gaps ≡ take l.entry-index l.from;
  fits : AllKeys g.K.NumberKey.fits_number l.gaps;
}
