-- A number as LEB128 bytes: seven bits a byte, the low ones first, the top bit on all bytes but the last.
use Rattle.std.specs.Prelude.{◌≡◌, ℕ, zero, suc, ◌+◌, ◌-◌, ◌*◌, ◌/◌, ◌%◌, true, false, List, [], ◌∷◌, ◌++◌, nat_lt}

-- the bytes of a number, of which so many may have the top bit
abbrev pub leb_within : ℕ → ℕ → List ℕ
leb_within zero n = n ∷ []
leb_within (suc most) n = elim (nat_lt n 128) [ true ↦ n ∷ [] | false ↦ (128 + n % 128) ∷ leb_within most (n / 128) ]

-- the bytes of a number
unfoldable pub leb : ℕ → List ℕ
leb n = leb_within n n

-- the number at the start of some bytes
abbrev pub number_of : List ℕ → ℕ
number_of [] = 0
number_of (b ∷ bs) = elim (nat_lt b 128) [ true ↦ b | false ↦ (b - 128) + 128 * number_of bs ]

-- some bytes begin with those of a value that fits
pub record BeginsWith {V : Type 0} (Fits : V → Type 0) (bytes : V → List ℕ) (from : List ℕ) : Type 0 where
  pub value : V
  pub others : List ℕ
  pub fits : Fits value
  pub is : from ≡ bytes value ++ others
