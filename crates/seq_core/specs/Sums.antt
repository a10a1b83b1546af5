-- What the items of a list sum up to.
use Rattle.std.specs.Prelude.{List, [], ◌∷◌}

module _ {E X : Type 0} (image : E → X) (unit : X) (combine : X → X → X) where
  -- the images of the items, combined in order, and the unit for no items
  abbrev pub sum_of : List E → X
  sum_of [] = unit
  sum_of (e ∷ es) = combine (image e) (sum_of es)
