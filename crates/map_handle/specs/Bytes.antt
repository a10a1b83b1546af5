-- What calls answer that make bytes of a map, and a map of bytes.
use Rattle.std.specs.Prelude.{◌≡◌, ◌⊎◌, ◌<◌, ◌≤◌, ℕ, List, length, Option, None, Some}
use Rattle.loose.specs.Arrays.{overwritten}
use Rattle.entry_bytes.specs.Format.{IsMap, encoding}

-- an array of the caller, and a number
pub record Room : Type 0 where
  pub bytes : List ℕ
  pub needed : ℕ

abbrev pub room : List ℕ → ℕ → Room
room bytes needed = record { bytes = bytes; needed = needed }

-- the bytes of a map, none where the handle is closed: 4 where it is; 7 for want of memory; else 0 where the array has room for them, and
-- 2 where it hasn't. The bytes are written at 0, and how many they are at 0 and 2
abbrev pub Fills : Option (List ℕ) → ℕ → Room → Room → Type 0
Fills None status before after = (status ≡ 4) × (after ≡ before)
Fills (Some bytes) status before after =
    ((status ≡ 7) × (after ≡ before))
    ⊎ (((length bytes ≤ length before.bytes) × (status ≡ 0) × (after ≡ room (overwritten before.bytes bytes) (length bytes)))
    ⊎ ((length before.bytes < length bytes) × (status ≡ 2) × (after ≡ room before.bytes (length bytes))))

-- bytes are those of a map, and the handle opens with it: 0; or of no map: 3; or 7 for want of memory. A handle that is open is a bad call
abbrev pub Opens : List ℕ → ℕ → Option (List (ℕ × ℕ)) → Option (List (ℕ × ℕ)) → Type 0
Opens bytes status (Some m) after = (status ≡ 4) × (after ≡ Some m)
Opens bytes status None after =
    ((status ≡ 7) × (after ≡ None))
    ⊎ (((status ≡ 0) × ((m : List (ℕ × ℕ)) × IsMap m × (bytes ≡ encoding m) × (after ≡ Some m)))
    ⊎ ((status ≡ 3) × ((m : List (ℕ × ℕ)) → IsMap m → bytes ≡ encoding m → ⊥) × (after ≡ None)))
