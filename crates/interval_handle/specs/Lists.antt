-- What a call writes that lists intervals into two arrays, and their number.
use Rattle.std.specs.Prelude.{◌≡◌, ◌⊎◌, ◌<◌, ◌≤◌, ℕ, List, length, Option, None, Some}
use Rattle.aug_monoid.specs.declared.pair64.Pair64.{Pair64}
use Rattle.loose.specs.Arrays.{overwritten}
use Rattle.interval_handle.specs.Ends.{lefts_of, rights_of}

-- the two arrays and the number
pub record Listing : Type 0 where
  pub lefts : List ℕ
  pub rights : List ℕ
  pub count : ℕ

abbrev pub listing : List ℕ → List ℕ → ℕ → Listing
listing lefts rights count = record { lefts = lefts; rights = rights; count = count }

-- the intervals, none where the call is refused: 4 where it is; 7 for want of memory; else 0 where the arrays have room for them,
-- and 2 where they don't. The intervals are written at 0, and their number at 0 and 2
abbrev pub Lists : Option (List Pair64) → ℕ → Listing → Listing → Type 0
Lists None status before after = (status ≡ 4) × (after ≡ before)
Lists (Some is) status before after =
    ((status ≡ 7) × (after ≡ before))
    ⊎ (((length is ≤ length before.lefts) × (status ≡ 0) × (after ≡ listing (overwritten before.lefts (lefts_of is)) (overwritten before.rights (rights_of is)) (length is)))
    ⊎ ((length before.lefts < length is) × (status ≡ 2) × (after ≡ listing before.lefts before.rights (length is))))
