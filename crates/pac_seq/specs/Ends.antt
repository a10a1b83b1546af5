-- The last item of a sequence.
use Rattle.std.specs.Prelude.{List, Option, ◌-◌, length, slice_get}

-- the item at the last place, if there is one
abbrev pub last_of : {E : Type 0} → List E → Option E
last_of items = slice_get items (length items - 1)
