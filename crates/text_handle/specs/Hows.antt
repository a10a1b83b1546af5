-- The union and the intersection of two maps.
use Rattle.std.specs.Prelude.{ℕ, List, Option, None, Some}
use Rattle.map_model.specs.SetOperations.{union, intersect}
use Rattle.map_handle.specs.declared.how.How.{How}
use Rattle.map_handle.specs.Hows.{resolved_by}
use Rattle.text_handle.specs.Keys.{bytes_cmp}

-- those of the maps of two handles, by a way to resolve if there is one
abbrev pub united : Option How → Option (List (List ℕ × ℕ)) → Option (List (List ℕ × ℕ)) → Option (List (List ℕ × ℕ))
united (Some how) (Some a) (Some b) = Some (union bytes_cmp (resolved_by how) a b)
united _ _ _ = None

abbrev pub shared : Option How → Option (List (List ℕ × ℕ)) → Option (List (List ℕ × ℕ)) → Option (List (List ℕ × ℕ))
shared (Some how) (Some a) (Some b) = Some (intersect bytes_cmp (resolved_by how) a b)
shared _ _ _ = None
