use Rattle.std.proofs.Common.{◌≡◌, ◌≤◌, ◌+◌, ◌-◌, length, map, take}
use Rattle.std.specs.declared.cmp.Ordering.TheVariants.{Less}
use Rattle.aug_monoid.specs.Exact.{pair64_cmp}
use Rattle.map_model.specs.Entries.{AllKeys}
use Rattle.gap_code.specs.Code.{IsPlaceOf}
use Rattle.row_leaf.specs.Code.{cell_bytes, place_entry}
use Rattle.row_leaf.proofs.seek.seek_key.Given as goal

abbrev pub invariant-loop-place : goal.invariant-loop-place
invariant-loop-place g l = record {
  place : IsPlaceOf cell_bytes l.gaps l.place;
  lower : AllKeys (λ k. pair64_cmp k l.key ≡ Less) (take l.place.index (map place_entry l.gaps));
  counted : l.steps ≤ l.initial.steps + l.place.index;
}

abbrev pub decreases-loop-place : goal.decreases-loop-place
decreases-loop-place g l = length l.gaps - l.place.index
