-- A map from numbers to numbers as bytes.
use Rattle.std.specs.Prelude.{ℕ, ◌<◌, ◌^◌, List, [], ◌∷◌, ◌++◌, length}
use Rattle.std.specs.Int.{to_be_bytes, w32}
use Rattle.std.specs.List.{AllByRecursion}
use Rattle.std.specs.Ordering.{nat_cmp}
use Rattle.map_model.specs.Entries.{IsIncreasing}
use Rattle.gap_code.specs.Code.{code}
use Rattle.gap_code.specs.Leb.{leb}
use Rattle.entry_bytes.specs.Adler.{adler32}

-- the entries of a map of 64 bit numbers
pub record IsMap (m : List (ℕ × ℕ)) : Type 0 where
  pub increasing : IsIncreasing nat_cmp m
  pub fits : AllByRecursion (λ e. (e.0 < 2 ^ 64) × (e.1 < 2 ^ 64)) m
  pub counted : length m < 2 ^ 64

-- the magic PAMB, version 1, and kind 1: a map of 64 bit numbers
unfoldable pub header : List ℕ
header = 80 ∷ 65 ∷ 77 ∷ 66 ∷ 1 ∷ 1 ∷ []

-- how the bytes of a map of so many entries begin, of which these come first
abbrev pub front : ℕ → List (ℕ × ℕ) → List ℕ
front count entries = header ++ (leb count ++ code leb entries)

-- the four bytes of a checksum, the greatest first
unfoldable pub checksum : List ℕ → List ℕ
checksum bytes = to_be_bytes w32 (adler32 bytes)

-- the bytes of a map
abbrev pub encoding : List (ℕ × ℕ) → List ℕ
encoding m = front (length m) m ++ checksum (front (length m) m)
