-- The entries nearest to a key, with its own among them.
use Rattle.std.specs.Prelude.{List, Option, None, slice_get}
use Rattle.std.specs.List.{last_or}
use Rattle.std.specs.declared.cmp.Ordering.{Ordering}
use Rattle.map_model.specs.Parts.{left_of, right_of}

module _ {K V : Type 0} (order : K → K → Ordering) where
  -- the entry with the greatest key at most a key
  abbrev pub floor : List (K × V) → K → Option (K × V)
  floor m k = last_or None (left_of order m k)

  -- the entry with the least key at least a key
  abbrev pub ceiling : List (K × V) → K → Option (K × V)
  ceiling m k = slice_get (right_of order m k) 0
