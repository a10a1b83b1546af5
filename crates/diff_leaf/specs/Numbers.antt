-- Keys and their numbers, and entries with either.
use Rattle.std.specs.Prelude.{ℕ, ℤ, pos, ◌+ℤ◌, ◌-ℤ◌, unsigned_abs, List}
use Rattle.std.specs.Ordering.{nat_cmp}
use Rattle.map_model.specs.Entries.{AllKeys, IsIncreasing}

-- an entry with the key of its number, and with the number of its key
abbrev pub key_entry : {K V : Type 0} → (ℕ → K) → ℕ × V → K × V
key_entry key_of e = (key_of e.0, e.1)

abbrev pub number_entry : {K V : Type 0} → (K → ℕ) → K × V → ℕ × V
number_entry number_of e = (number_of e.0, e.1)

-- the numbers rise, and each is that of a key
abbrev pub AreNumbers : {V : Type 0} → (ℕ → Type 0) → List (ℕ × V) → Type 0
AreNumbers Fits es = IsIncreasing nat_cmp es × AllKeys Fits es

-- of signed keys the least has the number 0, and 0 has the number half
abbrev pub signed_key : ℕ → ℕ → ℤ
signed_key half n = pos n -ℤ pos half

abbrev pub signed_number : ℕ → ℤ → ℕ
signed_number half k = unsigned_abs (k +ℤ pos half)
