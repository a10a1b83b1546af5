-- Where an entry stands.
use Rattle.std.specs.Prelude.{◌≡◌, ◌<◌, List, ◌∷◌, ◌++◌, length, drop, take}
use Rattle.tree_walk.specs.Aheads.{GoesOn}
use Rattle.tree_walk.specs.declared.seat.Seat.{Seat}
use Rattle.tree_walk.specs.declared.seat.Seat.TheVariants.{Entry, Inside}

module _ {M K V X A L : Type 0} (leaf_entries : L → List (K × V)) where
  -- the entries that are left begin with the entry of the seat and the side behind it, or with what is left of its leaf; and then what follows
  abbrev pub IsSeat : List (K × V) → Seat M K V X A L → Type 0
  IsSeat left (Entry entry ahead) = GoesOn left ((entry.key.now, entry.val.now) ∷ entry.side.now.entries) ahead
  IsSeat left (Inside leaf at ahead) = (at < length (leaf_entries leaf.now)) × GoesOn left (drop at (leaf_entries leaf.now)) ahead

  -- the entries before that of the seat end with those before it in its leaf
  abbrev pub IsSeatBehind : List (K × V) → Seat M K V X A L → Type 0
  IsSeatBehind before (Entry entry ahead) = Unit {0}
  IsSeatBehind before (Inside leaf at ahead) = (first : List (K × V)) × (before ≡ first ++ take at (leaf_entries leaf.now))
