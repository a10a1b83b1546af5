-- How the value at a key that two maps have is made.
use Rattle.std.specs.Prelude.{ℕ, ◌+◌, ◌-◌, ◌^◌, List, Option, None, Some, cond, eqb, min, max}
use Rattle.std.specs.Ordering.{nat_cmp}
use Rattle.map_model.specs.SetOperations.{union, intersect}
use Rattle.map_handle.specs.declared.how.How.{How}
use Rattle.map_handle.specs.declared.how.How.TheVariants.{First, Second, Sum, Max}

-- the way that a number names
abbrev pub how_at : ℕ → Option How
how_at n = cond (eqb n 0) (Some First) (cond (eqb n 1) (Some Second) (cond (eqb n 2) (Some Sum) (cond (eqb n 3) (Some Max) None)))

-- the value, from that in the first map and that in the second
abbrev pub resolved_by : How → ℕ → ℕ → ℕ
resolved_by First a b = a
resolved_by Second a b = b
resolved_by Sum a b = min (a + b) (2 ^ 64 - 1)
resolved_by Max a b = max a b

-- the union and the intersection of the maps of two handles, by a way if there is one
abbrev pub united : Option How → Option (List (ℕ × ℕ)) → Option (List (ℕ × ℕ)) → Option (List (ℕ × ℕ))
united (Some how) (Some a) (Some b) = Some (union nat_cmp (resolved_by how) a b)
united _ _ _ = None

abbrev pub shared : Option How → Option (List (ℕ × ℕ)) → Option (List (ℕ × ℕ)) → Option (List (ℕ × ℕ))
shared (Some how) (Some a) (Some b) = Some (intersect nat_cmp (resolved_by how) a b)
shared _ _ _ = None
