-- The gap code of entries, whose keys are numbers that do not fall: for each the bytes of its gap, then of its value.
use Rattle.std.specs.Prelude.{◌≡◌, ℕ, zero, suc, ◌+◌, ◌-◌, ◌<◌, ◌≤◌, ◌^◌, List, [], ◌∷◌, ◌++◌, length, drop, take}
use Rattle.aug_monoid.specs.declared.leaf.Walk.{Walk}
use Rattle.gap_code.specs.Leb.{leb, number_of}

-- the code of entries that come after a key
abbrev pub code_after : {V : Type 0} → (V → List ℕ) → ℕ → List (ℕ × V) → List ℕ
code_after bytes before [] = []
code_after bytes before (e ∷ es) = leb (e.0 - before) ++ (bytes e.1 ++ code_after bytes e.0 es)

-- the code of entries
abbrev pub code : {V : Type 0} → (V → List ℕ) → List (ℕ × V) → List ℕ
code bytes es = code_after bytes 0 es

-- the last key, or the one before them where there is none
abbrev pub last_key : {V : Type 0} → ℕ → List (ℕ × V) → ℕ
last_key before [] = before
last_key before (e ∷ es) = last_key e.0 es

-- keys that do not fall, from one on
abbrev pub NotFalling : {V : Type 0} → ℕ → List (ℕ × V) → Type 0
NotFalling before [] = Unit {0}
NotFalling before (e ∷ es) = (before ≤ e.0) × NotFalling e.0 es

-- keys of 64 bits that do not fall, and values that fit
abbrev pub AreCodable : {V : Type 0} → (V → Type 0) → ℕ → List (ℕ × V) → Type 0
AreCodable Fits before [] = Unit {0}
AreCodable Fits before (e ∷ es) = (before ≤ e.0) × (e.0 < 2 ^ 64) × Fits e.1 × AreCodable Fits e.0 es

-- an entry of this gap, and what is read off the bytes after it
abbrev pub entry_then : {V : Type 0} → (V → List ℕ) → (List ℕ → V) → (ℕ → List ℕ → List (ℕ × V)) → ℕ → ℕ → List ℕ → List (ℕ × V)
entry_then bytes value_at rest before gap after = (before + gap, value_at after) ∷ rest (before + gap) (drop (length (bytes (value_at after))) after)

-- so many entries, read off their code
abbrev pub entries_of : {V : Type 0} → (V → List ℕ) → (List ℕ → V) → ℕ → ℕ → List ℕ → List (ℕ × V)
entries_of bytes value_at zero before from = []
entries_of bytes value_at (suc count) before from =
    entry_then bytes value_at (entries_of bytes value_at count) before (number_of from) (drop (length (leb (number_of from))) from)

-- the place before the entry of an index: so many bytes are before it, and this is the key before it
pub record IsPlace {V : Type 0} (bytes : V → List ℕ) (es : List (ℕ × V)) (index byte key : ℕ) : Type 0 where
  pub within : index ≤ length es
  pub byte_is : byte ≡ length (code bytes (take index es))
  pub key_is : key ≡ last_key 0 (take index es)

-- a walk stands before an entry, or at the end
abbrev pub IsPlaceOf : {V : Type 0} → (V → List ℕ) → List (ℕ × V) → Walk → Type 0
IsPlaceOf bytes es walk = IsPlace bytes es walk.index walk.byte walk.key

-- these bytes, their number of entries and their last key are those of entries
pub record IsCodeOf {V : Type 0} (Fits : V → Type 0) (bytes : V → List ℕ) (stored : List ℕ) (len last : ℕ) (es : List (ℕ × V)) : Type 0 where
  pub codable : AreCodable Fits 0 es
  pub counted : len ≡ length es
  pub is : stored ≡ code bytes es
  pub last_is : last ≡ last_key 0 es
