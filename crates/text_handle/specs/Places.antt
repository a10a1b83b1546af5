-- Where a call writes the entry that it finds.
use Rattle.std.specs.Prelude.{◌≡◌, ◌⊎◌, ◌<◌, ◌≤◌, ℕ, List, length, Option, None, Some}
use Rattle.loose.specs.Arrays.{overwritten}

-- an array for the key, the number of the key's bytes, and the value
pub record Place : Type 0 where
  pub key : List ℕ
  pub len : ℕ
  pub val : ℕ

abbrev pub place : List ℕ → ℕ → ℕ → Place
place key len val = record { key = key; len = len; val = val }

-- the entry, if there is one: 1 where there is none; else 0 where the array has room for its key, and 2 where it hasn't. The entry is
-- written at 0, and the number of the key's bytes at 0 and 2
abbrev pub Lays : Option (List ℕ × ℕ) → ℕ → Place → Place → Type 0
Lays None status before after = (status ≡ 1) × (after ≡ before)
Lays (Some entry) status before after =
    ((length entry.0 ≤ length before.key) × (status ≡ 0) × (after ≡ place (overwritten before.key entry.0) (length entry.0) entry.1))
    ⊎ ((length before.key < length entry.0) × (status ≡ 2) × (after ≡ place before.key (length entry.0) before.val))

-- the entry that an open handle finds, none where it is closed: 4 where it is closed; 7 for want of memory; else as `Lays`
abbrev pub Finds : Option (Option (List ℕ × ℕ)) → ℕ → Place → Place → Type 0
Finds None status before after = (status ≡ 4) × (after ≡ before)
Finds (Some entry) status before after = ((status ≡ 7) × (after ≡ before)) ⊎ Lays entry status before after
