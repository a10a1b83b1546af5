-- The keys of a map: lists of bytes.
use Rattle.std.specs.Prelude.{◌≡◌, ◌⊎◌, ℕ, List, Option, None, Some}
use Rattle.std.specs.Cmp.Lexicographic.{slice_cmp}
use Rattle.std.specs.Ordering.{nat_cmp}
use Rattle.std.specs.declared.cmp.Ordering.{Ordering}
use Rattle.map_model.specs.Entries.{drop_key, lookup}

-- the order of keys: by the first byte that differs, and a list comes before those that it begins
abbrev pub bytes_cmp : List ℕ → List ℕ → Ordering
bytes_cmp = slice_cmp nat_cmp

-- whether a key is there: 4 where the handle is closed; 7 for want of memory; else 0 where it is, and 1 where it isn't
abbrev pub Tests : List ℕ → ℕ → Option (List (List ℕ × ℕ)) → Type 0
Tests key status None = status ≡ 4
Tests key status (Some m) = (status ≡ 7) ⊎ (((status ≡ 0) × ¬ (lookup bytes_cmp m key ≡ None)) ⊎ ((status ≡ 1) × (lookup bytes_cmp m key ≡ None)))

-- a key is removed: 4 where the handle is closed; 7 for want of memory; else 0 where the key was there, and 1 where it wasn't. But at 0
-- the handle is as it was
abbrev pub Removes : List ℕ → ℕ → Option (List (List ℕ × ℕ)) → Option (List (List ℕ × ℕ)) → Type 0
Removes key status None after = (status ≡ 4) × (after ≡ None)
Removes key status (Some m) after =
    ((status ≡ 7) × (after ≡ Some m))
    ⊎ ((¬ (lookup bytes_cmp m key ≡ None) × (status ≡ 0) × (after ≡ Some (drop_key bytes_cmp m key)))
    ⊎ ((lookup bytes_cmp m key ≡ None) × (status ≡ 1) × (after ≡ Some m)))
