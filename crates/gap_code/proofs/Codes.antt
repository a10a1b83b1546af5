-- The code of entries, parted and read.
use Rattle.std.proofs.Common.{◌≡◌, ℕ, zero, suc, ◌+◌, ◌-◌, ◌<◌, List, [], ◌∷◌, ◌++◌, length, take, drop, refl, ap, ◌∙◌, arith, append_assoc, Some}
use Rattle.std.proofs.lemmas.List.{drop_at}
use Rattle.std.specs.List.{slice_get}
use Rattle.gap_code.specs.Leb.{leb, number_of}
use Rattle.gap_code.specs.LebLaws.{number_of-leb}
use Rattle.gap_code.specs.Code.{code_after, last_key, AreCodable, entries_of}

-- a number at the start, and what comes after it
pub number_first : (n : ℕ) (others from : List ℕ) → from ≡ leb n ++ others → number_of from ≡ n
number_first n others from is = ap number_of is ∙ number_of-leb n others

pub code_after-append : {V : Type 0} (bytes : V → List ℕ) (l r : List (ℕ × V)) (before : ℕ) → code_after bytes before (l ++ r) ≡ code_after bytes before l ++ code_after bytes (last_key before l) r
code_after-append bytes [] r before = refl
code_after-append bytes (e ∷ l) r before = rw (code_after-append bytes l r e.0) (simp append_assoc)

pub last_key-append : {V : Type 0} (l r : List (ℕ × V)) (before : ℕ) → last_key before (l ++ r) ≡ last_key (last_key before l) r
last_key-append [] r before = refl
last_key-append (e ∷ l) r before = last_key-append l r e.0

module _ {V : Type 0} (Fits : V → Type 0) where
  pub codable-append : (l r : List (ℕ × V)) (before : ℕ) → AreCodable Fits before l → AreCodable Fits (last_key before l) r → AreCodable Fits before (l ++ r)
  codable-append [] r before a b = b
  codable-append (e ∷ l) r before a b = (a.0, a.1, a.2, codable-append l r e.0 a.3 b)

  pub codable_front : (l r : List (ℕ × V)) (before : ℕ) → AreCodable Fits before (l ++ r) → AreCodable Fits before l
  codable_front [] r before a = tt
  codable_front (e ∷ l) r before a = (a.0, a.1, a.2, codable_front l r e.0 a.3)

  pub codable_back : (l r : List (ℕ × V)) (before : ℕ) → AreCodable Fits before (l ++ r) → AreCodable Fits (last_key before l) r
  codable_back [] r before a = a
  codable_back (e ∷ l) r before a = codable_back l r e.0 a.3

-- what is read off the code of entries is these entries
pub entries_of-code : {V : Type 0} (Fits : V → Type 0) (bytes : V → List ℕ) (value_at : List ℕ → V) → ((v : V) (others : List ℕ) → Fits v → value_at (bytes v ++ others) ≡ v)
    → (es : List (ℕ × V)) (before : ℕ) → AreCodable Fits before es → entries_of bytes value_at (length es) before (code_after bytes before es) ≡ es
entries_of-code Fits bytes value_at read_back [] before a = refl
entries_of-code Fits bytes value_at read_back (e ∷ es) before a =
    let rest = code_after bytes e.0 es in
    let number : number_of (leb (e.0 - before) ++ (bytes e.1 ++ rest)) ≡ e.0 - before = number_of-leb (e.0 - before) (bytes e.1 ++ rest) in
    let after : drop (length (leb (e.0 - before))) (leb (e.0 - before) ++ (bytes e.1 ++ rest)) ≡ bytes e.1 ++ rest = drop_at (leb (e.0 - before)) (bytes e.1 ++ rest) _ refl in
    let val : value_at (bytes e.1 ++ rest) ≡ e.1 = read_back e.1 rest a.2 in
    let past : drop (length (bytes e.1)) (bytes e.1 ++ rest) ≡ rest = drop_at (bytes e.1) rest _ refl in
    let key : before + (e.0 - before) ≡ e.0 = omega (arith, a.0) in
    rw (number, after, val, past, key) (ap (λ t. e ∷ t) (entries_of-code Fits bytes value_at read_back es e.0 a.3))

-- an entry of a list
pub record IsEntry {V : Type 0} (es : List (ℕ × V)) (index : ℕ) : Type 0 where
  pub entry : ℕ × V
  pub got : slice_get es index ≡ Some entry
  pub taken : take (index + 1) es ≡ take index es ++ entry ∷ []
  pub left : drop index es ≡ entry ∷ drop (index + 1) es

pub entry_at : {V : Type 0} (es : List (ℕ × V)) (index : ℕ) → index < length es → IsEntry es index
entry_at [] index h = absurd (omega arith)
entry_at (e ∷ es) zero h = record { entry = e; got = refl; taken = refl; left = refl }
entry_at (e ∷ es) (suc index) h =
    let i = entry_at es index (omega arith) in
    let more : suc index + 1 ≡ suc (index + 1) = omega arith in
    record { entry = i.entry; got = i.got; taken = rw more (ap (λ t. e ∷ t) i.taken); left = rw more i.left }
