-- What is read at a place.
use Rattle.std.specs.Prelude.{◌≡◌, ℕ, ◌+◌, ◌^◌, ◌<◌, ◌≤◌, List, ◌++◌, length, drop}
use Rattle.gap_code.specs.Leb.{leb}
use Rattle.entry_bytes.specs.Faults.{IsBegun}

-- a number at a place, and the place after it
pub record IsRead (bytes : List ℕ) (at number after : ℕ) : Type 0 where
  pub fits : number < 2 ^ 64
  pub is : drop at bytes ≡ leb number ++ drop after bytes
  pub within : after ≤ length bytes

-- an entry at a place, behind a key, and the place after it; its gap is at least this
pub record IsEntry (bytes : List ℕ) (at last least key val after : ℕ) : Type 0 where
  pub gap : ℕ
  pub enough : least ≤ gap
  pub key_is : key ≡ last + gap
  pub key_fits : key < 2 ^ 64
  pub val_fits : val < 2 ^ 64
  pub is : drop at bytes ≡ leb gap ++ (leb val ++ drop after bytes)
  pub within : after ≤ length bytes

-- so many entries, and the place after them
pub record AreRead (bytes : List ℕ) (count after : ℕ) (entries : List (ℕ × ℕ)) : Type 0 where
  pub begun : IsBegun bytes count entries (drop after bytes)
  pub within : after ≤ length bytes
  pub all : length entries ≡ count
