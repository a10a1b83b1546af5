use Rattle.std.proofs.Common.{◌≡◌, ◌≤◌, ◌+◌, ◌-◌, length, take}
use Rattle.std.specs.Ordering.{nat_cmp}
use Rattle.std.specs.declared.cmp.Ordering.TheVariants.{Less}
use Rattle.map_model.specs.Entries.{AllKeys}
use Rattle.gap_code.specs.Code.{IsPlaceOf}
use Rattle.diff_leaf.proofs.seek.seek_key.Given as goal

abbrev pub invariant-loop-place : goal.invariant-loop-place
invariant-loop-place g l = record {
  place : IsPlaceOf g.V.ValueCode.bytes_of l.gaps l.place;
  lower : AllKeys (λ k. nat_cmp k l.key ≡ Less) (take l.place.index l.gaps);
  counted : l.steps ≤ l.initial.steps + l.place.index;
}

abbrev pub decreases-loop-place : goal.decreases-loop-place
decreases-loop-place g l = length l.gaps - l.place.index
