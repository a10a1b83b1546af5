-- The place of a cursor.
use Rattle.std.specs.Prelude.{◌≡◌, ◌+◌, ◌≤◌, List, ◌++◌, length, take, drop, Option, None, Some}
use Rattle.aug_monoid.specs.declared.leaf.Walk.{Walk}
use Rattle.tree_walk.specs.Aheads.{headed_by}
use Rattle.tree_walk.specs.declared.back.BackPlace.{BackPlace}
use Rattle.tree_walk.specs.declared.cursor.Place.{Place}

module _ {K V L : Type 0} (leaf_entries : L → List (K × V)) (fits_walk : L → Walk → Type 0) where
  -- the entries that are left begin with what is left of the leaf, and then the entry that follows
  pub record IsPlaceIn (left : List (K × V)) (place : Place K V L) : Type 0 where
    pub rest : List (K × V)
    pub left_is : left ≡ drop place.at (leaf_entries place.leaf.now) ++ headed_by place.next rest
    pub fits_leaf : fits_walk place.leaf.now place.walk

  -- a place is the next one after another, in the same leaf
  abbrev pub IsBehind : Place K V L → Place K V L → Type 0
  IsBehind old new = (rest : List (K × V)) → IsPlaceIn (drop (old.at + 1) (leaf_entries old.leaf.now) ++ headed_by old.next rest) new

  -- the place, if there is one, is that of the entries that are left
  abbrev pub IsPlace : List (K × V) → Option (Place K V L) → Type 0
  IsPlace left None = Unit {0}
  IsPlace left (Some place) = IsPlaceIn left place

module _ {K V L : Type 0} (leaf_entries : L → List (K × V)) where
  -- the entries that are left end with what is left of the leaf
  pub record IsBackPlaceIn (left : List (K × V)) (place : BackPlace L) : Type 0 where
    pub before : List (K × V)
    pub left_is : left ≡ before ++ take place.at (leaf_entries place.leaf.now)
    pub within : place.at ≤ length (leaf_entries place.leaf.now)

  -- the place at the back, if there is one, is that of the entries that are left
  abbrev pub IsBackPlace : List (K × V) → Option (BackPlace L) → Type 0
  IsBackPlace left None = Unit {0}
  IsBackPlace left (Some place) = IsBackPlaceIn left place
