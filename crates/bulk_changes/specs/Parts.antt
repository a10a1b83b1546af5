-- A map and a slice of entries that are to be united, and how the unions of two parts are put together.
use Rattle.std.specs.Prelude.{◌≡◌, List, ◌∷◌, ◌++◌}
use Rattle.std.specs.Borrow.{Bor}
use Rattle.std.specs.declared.cmp.Ordering.{Ordering}
use Rattle.map_model.specs.Contents.{Contents}
use Rattle.map_model.specs.Entries.{IsIncreasing}
use Rattle.map_model.specs.SetOperations.{union}

module _ {K V : Type 0} (order : K → K → Ordering) (f : V → V → V) where
  -- the entries of the map or the slice
  abbrev pub union_of_part : Contents K V × Bor (List (K × V)) → List (K × V)
  union_of_part part = union order f part.0.entries part.1.now

  -- a part's union is that of its front, an entry, and that of its back, and increases
  pub record IsPutTogether (part front : Contents K V × Bor (List (K × V))) (middle : K × V) (back : Contents K V × Bor (List (K × V))) : Type 0 where
    pub whole : union_of_part part ≡ union_of_part front ++ middle ∷ union_of_part back
    pub increasing : IsIncreasing order (union_of_part front ++ middle ∷ union_of_part back)
