-- Entries as three arrays: the bytes of the keys in a row, where in that row each key ends, and the values.
use Rattle.std.specs.Prelude.{◌≡◌, ◌⊎◌, ◌+◌, ◌-◌, ℕ, zero, suc, List, [], ◌∷◌, Bool, true, ◌&&◌, cond, length, map, take, drop, nat_le, Option, None, Some, MatchOption}
use Rattle.std.specs.List.{flat_map}
use Rattle.loose.specs.Arrays.{overwritten}

-- the bytes of the keys in a row
abbrev pub bytes_of : List (List ℕ × ℕ) → List ℕ
bytes_of m = flat_map (λ e. e.0) m

-- where the keys end, of which the first begins at a place
abbrev pub ends_from : ℕ → List (List ℕ × ℕ) → List ℕ
ends_from start [] = []
ends_from start (e ∷ m) = (start + length e.0) ∷ ends_from (start + length e.0) m

-- the entries of such arrays, the first key of which begins at a place
abbrev pub entries_from : ℕ → List ℕ → List ℕ → List ℕ → List (List ℕ × ℕ)
entries_from start bytes (end ∷ ends) (val ∷ vals) = (take (end - start) (drop start bytes), val) ∷ entries_from end bytes ends vals
entries_from start bytes [] vals = []
entries_from start bytes (end ∷ ends) [] = []

-- no key ends before it begins, nor behind the last of so many bytes
abbrev pub are_ends : ℕ → ℕ → List ℕ → Bool
are_ends start count [] = true
are_ends start count (end ∷ ends) = nat_le start end && (nat_le end count && are_ends end count ends)

-- the first entries, as many as there are places for, and as there is room for their keys
abbrev pub fitting : ℕ → ℕ → List (List ℕ × ℕ) → List (List ℕ × ℕ)
fitting room zero m = []
fitting room (suc places) [] = []
fitting room (suc places) (e ∷ m) = cond (nat_le (length e.0) room) (e ∷ fitting (room - length e.0) places m) []

-- the room that the first entry's key needs, where there is a place for that entry and not the room
abbrev pub lacking : ℕ → ℕ → List (List ℕ × ℕ) → Option ℕ
lacking room zero m = None
lacking room (suc places) [] = None
lacking room (suc places) (e ∷ m) = cond (nat_le (length e.0) room) None (Some (length e.0))

-- the arrays of a caller, and a number
pub record Rows : Type 0 where
  pub keys : List ℕ
  pub ends : List ℕ
  pub vals : List ℕ
  pub count : ℕ

abbrev pub rows : List ℕ → List ℕ → List ℕ → ℕ → Rows
rows keys ends vals count = record { keys = keys; ends = ends; vals = vals; count = count }

-- entries in the arrays, and how many they are
abbrev pub laid : List (List ℕ × ℕ) → Rows → Rows
laid m before = rows (overwritten before.keys (bytes_of m)) (overwritten before.ends (ends_from 0 m)) (overwritten before.vals (map (λ e. e.1) m)) (length m)

-- the first of some entries are written, none where the handle is closed: 4 where it is; 7 for want of memory; 2 where there is a place for
-- the first one and no room for its key, and the room that it needs is written; else 0, and as many as fit are written, and their number
abbrev pub Fills : Option (List (List ℕ × ℕ)) → ℕ → Rows → Rows → Type 0
Fills None status before after = (status ≡ 4) × (after ≡ before)
Fills (Some m) status before after =
    ((status ≡ 7) × (after ≡ before))
    ⊎ MatchOption (lacking (length before.keys) (length before.vals) m)
    ((status ≡ 0) × (after ≡ laid (fitting (length before.keys) (length before.vals) m) before))
    (λ needed. (status ≡ 2) × (after ≡ rows before.keys before.ends before.vals needed))
