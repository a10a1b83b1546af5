-- Why some bytes are those of no map: what they begin with, and what is at fault next.
use Rattle.std.specs.Prelude.{◌≡◌, ◌≢◌, ℕ, ◌+◌, ◌*◌, ◌^◌, ◌<◌, ◌≤◌, ◌==◌, ◌⊎◌, List, [], ◌∷◌, ◌++◌, length, take, slice_index, if◌then◌else◌, nat_lt}
use Rattle.gap_code.specs.Code.{code, last_key}
use Rattle.gap_code.specs.Leb.{leb}
use Rattle.entry_bytes.specs.Format.{IsMap, header, front, checksum}
use Rattle.entry_bytes.specs.declared.fault.DecodeFault.{DecodeFault}
use Rattle.entry_bytes.specs.declared.fault.DecodeFault.TheVariants.{Short, Magic, Version, Kind, Number, Order, Trailing, Checksum}

-- the bytes end within a number
pub record IsCut (bytes : List ℕ) : Type 0 where
  pub number : ℕ
  pub missing : List ℕ
  pub fits : number < 2 ^ 64
  pub some : 0 < length missing
  pub is : bytes ++ missing ≡ leb number

-- whatever were to come after the bytes, they don't begin with a number
abbrev pub NoNumber : List ℕ → Type 0
NoNumber bytes = (number : ℕ) (more others : List ℕ) → number < 2 ^ 64 → bytes ++ more ≢ leb number ++ others

-- a number should be next
abbrev pub IsNumberFault : DecodeFault → List ℕ → Type 0
IsNumberFault Short bytes = IsCut bytes
IsNumberFault Number bytes = NoNumber bytes
IsNumberFault _ bytes = ⊥

-- of a wrong byte of the header
abbrev pub header_fault : ℕ → DecodeFault
header_fault at = if nat_lt at 4 then Magic else (if at == 4 then Version else Kind)

-- so many bytes of the header come first, and then another byte or none
pub record IsHeaderFault (fault : DecodeFault) (bytes : List ℕ) : Type 0 where
  pub at : ℕ
  pub within : at < 6
  pub before : take at bytes ≡ take at header
  pub next : ((length bytes ≤ at) × (fault ≡ Short)) ⊎ ((at < length bytes) × (slice_index bytes at ≢ slice_index header at) × (fault ≡ header_fault at))

-- there is no room for so many entries, of two bytes at least, and the checksum
pub record IsCrowded (fault : DecodeFault) (bytes : List ℕ) : Type 0 where
  pub count : ℕ
  pub others : List ℕ
  pub fits : count < 2 ^ 64
  pub is : bytes ≡ leb count ++ others
  pub few : length others < 2 * count + 4
  pub short : fault ≡ Short

-- the header comes first, and then the number of entries is at fault
pub record IsCountFault (fault : DecodeFault) (bytes : List ℕ) : Type 0 where
  pub rest : List ℕ
  pub is : bytes ≡ header ++ rest
  pub next : IsNumberFault fault rest ⊎ IsCrowded fault rest

-- the bytes of a map of so many entries come first, up to some of its entries
pub record IsBegun (bytes : List ℕ) (count : ℕ) (entries : List (ℕ × ℕ)) (rest : List ℕ) : Type 0 where
  pub is : bytes ≡ front count entries ++ rest
  pub counted : count < 2 ^ 64
  pub room : 2 * count + 4 ≤ length (code leb entries ++ rest)
  pub within : length entries ≤ count
  pub lawful : IsMap entries

-- the first gap may be 0, and no other
abbrev pub least_gap : List (ℕ × ℕ) → ℕ
least_gap [] = 0
least_gap (e ∷ es) = 1

-- an entry should be next
pub record IsBehindGap (last least : ℕ) (fault : DecodeFault) (bytes : List ℕ) : Type 0 where
  pub gap : ℕ
  pub others : List ℕ
  pub fits : gap < 2 ^ 64
  pub is : bytes ≡ leb gap ++ others
  pub next : (((gap < least) ⊎ (2 ^ 64 ≤ last + gap)) × (fault ≡ Order)) ⊎ ((least ≤ gap) × (last + gap < 2 ^ 64) × IsNumberFault fault others)

abbrev pub IsEntryFault : ℕ → ℕ → DecodeFault → List ℕ → Type 0
IsEntryFault last least fault bytes = IsNumberFault fault bytes ⊎ IsBehindGap last least fault bytes

-- some of the entries come first, and then one is at fault
pub record IsEntriesFault (fault : DecodeFault) (bytes : List ℕ) : Type 0 where
  pub count : ℕ
  pub entries : List (ℕ × ℕ)
  pub rest : List ℕ
  pub begun : IsBegun bytes count entries rest
  pub left : length entries < count
  pub next : IsEntryFault (last_key 0 entries) (least_gap entries) fault rest

-- the checksum of some bytes should be next, and then nothing
abbrev pub IsEndFault : DecodeFault → List ℕ → List ℕ → Type 0
IsEndFault fault before bytes =
    ((length bytes < 4) × (fault ≡ Short))
    ⊎ (((4 ≤ length bytes) × (take 4 bytes ≢ checksum before) × (fault ≡ Checksum))
    ⊎ ((4 < length bytes) × (take 4 bytes ≡ checksum before) × (fault ≡ Trailing)))

-- all entries come first
pub record IsChecksumFault (fault : DecodeFault) (bytes : List ℕ) : Type 0 where
  pub entries : List (ℕ × ℕ)
  pub rest : List ℕ
  pub begun : IsBegun bytes (length entries) entries rest
  pub next : IsEndFault fault (front (length entries) entries) rest

-- the first fault of some bytes
abbrev pub IsFirstFault : DecodeFault → List ℕ → Type 0
IsFirstFault fault bytes = IsHeaderFault fault bytes ⊎ (IsCountFault fault bytes ⊎ (IsEntriesFault fault bytes ⊎ IsChecksumFault fault bytes))
