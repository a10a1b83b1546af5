-- What stands in one of two maps alone.
use Rattle.std.specs.Prelude.{List}
use Rattle.std.specs.declared.cmp.Ordering.{Ordering}
use Rattle.map_model.specs.SetOperations.{difference, union}

-- the entries of either map whose keys the other hasn't
abbrev pub symmetric_difference : {K V : Type 0} → (K → K → Ordering) → List (K × V) → List (K × V) → List (K × V)
symmetric_difference order a b = union order (λ v _. v) (difference order a b) (difference order b a)
