-- How many entries a map has after each of some puts.
use Rattle.std.specs.Prelude.{ℕ, List, [], ◌∷◌, length}
use Rattle.std.specs.Ordering.{nat_cmp}
use Rattle.map_model.specs.Entries.{set}

-- how many entries a map has after each put of some entries, in order
abbrev pub sizes_after : List (ℕ × ℕ) → List (ℕ × ℕ) → List ℕ
sizes_after m [] = []
sizes_after m (e ∷ entries) = length (set nat_cmp m e.0 e.1) ∷ sizes_after (set nat_cmp m e.0 e.1) entries
