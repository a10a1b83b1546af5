-- The place of a key in a map's list.
use Rattle.std.specs.Prelude.{◌≡◌, ◌<◌, ◌≤◌, ℕ, List, length, slice_index_or}

-- the key at a place
abbrev pub key_at : List (ℕ × ℕ) → ℕ → ℕ
key_at m i = let entry = slice_index_or m i (0, 0) in entry.0

-- the entry at place i has the key
pub record IsAt (m : List (ℕ × ℕ)) (key i : ℕ) : Type 0 where
  pub in_range : i < length m
  pub has_key : key_at m i ≡ key

-- the key would go at place i: smaller keys before it, and greater keys from it on
pub record IsGapFor (m : List (ℕ × ℕ)) (key i : ℕ) : Type 0 where
  pub in_range : i ≤ length m
  pub smaller_before : (j : ℕ) → j < i → key_at m j < key
  pub greater_after : (j : ℕ) → i ≤ j → j < length m → key < key_at m j
