-- The keys of a handle.
use Rattle.std.specs.Prelude.{◌≡◌, ℕ, List, Option, None, Some}
use Rattle.std.specs.Ordering.{nat_cmp}
use Rattle.map_model.specs.Entries.{lookup}

-- the handle is open, and its map lacks the key
abbrev pub Lacks : ℕ → Option (List (ℕ × ℕ)) → Type 0
Lacks key None = ⊥
Lacks key (Some m) = lookup nat_cmp m key ≡ None
