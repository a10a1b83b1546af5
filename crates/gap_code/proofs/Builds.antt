-- Gap codes made of entries and of each other.
use Rattle.std.proofs.Common.{◌≡◌, ℕ, ◌+◌, ◌-◌, ◌^◌, ◌<◌, ◌≤◌, List, [], ◌∷◌, ◌++◌, length, take, drop, refl, sym, ap, subst, ◌∙◌, arith, append_assoc, append-nil, length-append, length-drop, take-append-drop}
use Rattle.std.proofs.lemmas.List.{take_at, length-take-le}
use Rattle.std.proofs.lemmas.Option.{slice_get_within}
use Rattle.std.specs.List.{slice_get}
use Rattle.std.specs.Prelude.{Some}
use Rattle.gap_code.specs.Leb.{leb}
use Rattle.gap_code.specs.Code.{code_after, code, last_key, entries_of, NotFalling, AreCodable, IsPlace, IsCodeOf}
use Rattle.gap_code.proofs.Codes.{code_after-append, last_key-append, codable-append, codable_front, entries_of-code, entry_at}
use Rattle.gap_code.proofs.Places.{split_code, codable_at_place}

-- ---- what is read

module _ {V : Type 0} {Fits : V → Type 0} {bytes : V → List ℕ} (value_at : List ℕ → V) (read_back : (v : V) (others : List ℕ) → Fits v → value_at (bytes v ++ others) ≡ v) {stored : List ℕ} {len last : ℕ} {es : List (ℕ × V)} (h : IsCodeOf Fits bytes stored len last es) where
  -- what is read off the code of entries is these entries
  pub read : entries_of bytes value_at len 0 stored ≡ es
  read = ap (λ n. entries_of bytes value_at n 0 stored) h.counted ∙ ap (entries_of bytes value_at (length es) 0) h.is ∙ entries_of-code Fits bytes value_at read_back es 0 h.codable

  pub again : IsCodeOf Fits bytes stored len last (entries_of bytes value_at len 0 stored)
  again = subst (IsCodeOf Fits bytes stored len last) (sym read) h

-- ---- numbers that do not fall

pub falling_parts : {V : Type 0} (l r : List (ℕ × V)) (before : ℕ) → NotFalling before (l ++ r) → NotFalling (last_key before l) r
falling_parts [] r before n = n
falling_parts (e ∷ l) r before n = falling_parts l r e.0 n.1

pub codable_falls : {V : Type 0} (Fits : V → Type 0) (es : List (ℕ × V)) (before : ℕ) → AreCodable Fits before es → NotFalling before es
codable_falls Fits [] before a = tt
codable_falls Fits (e ∷ es) before a = (a.0, codable_falls Fits es e.0 a.3)

falling_lower : {V : Type 0} (es : List (ℕ × V)) (low before : ℕ) → low ≤ before → NotFalling before es → NotFalling low es
falling_lower [] low before h n = tt
falling_lower (e ∷ es) low before h n = (omega (arith, h, n.0), n.1)

falling_back : {V : Type 0} (es : List (ℕ × V)) (index : ℕ) → NotFalling 0 es → NotFalling (last_key 0 (take index es)) (drop index es)
falling_back es index n = falling_parts (take index es) (drop index es) 0 (subst (NotFalling 0) (sym (take-append-drop index es)) n)

pub falling_anew : {V : Type 0} (es : List (ℕ × V)) (index : ℕ) → NotFalling 0 es → NotFalling 0 (drop index es)
falling_anew es index n = falling_lower (drop index es) 0 (last_key 0 (take index es)) (omega arith) (falling_back es index n)

-- those after an entry follow on those before it
pub falling_past : {V : Type 0} (es : List (ℕ × V)) (index : ℕ) → index < length es → NotFalling 0 es → NotFalling (last_key 0 (take index es)) (drop (index + 1) es)
falling_past es index inside n =
    let i = entry_at es index inside in
    let m = subst (NotFalling (last_key 0 (take index es))) i.left (falling_back es index n) in
    falling_lower (drop (index + 1) es) (last_key 0 (take index es)) i.entry.0 m.0 m.1

pub codable_from : {V : Type 0} (Fits : V → Type 0) (es : List (ℕ × V)) (low before : ℕ) → AreCodable Fits low es → NotFalling before es → AreCodable Fits before es
codable_from Fits [] low before a n = tt
codable_from Fits (e ∷ es) low before a n = (n.0, a.1, a.2, a.3)

-- ---- one after another

module _ {V : Type 0} {Fits : V → Type 0} {bytes : V → List ℕ} {stored : List ℕ} {len last : ℕ} {l : List (ℕ × V)} (h : IsCodeOf Fits bytes stored len last l) where
  pub joined : (r : List (ℕ × V)) (whole : List ℕ) (count end : ℕ) → AreCodable Fits (last_key 0 l) r → whole ≡ stored ++ code_after bytes last r → count ≡ len + length r → end ≡ last_key last r → IsCodeOf Fits bytes whole count end (l ++ r)
  joined r whole count end a is counted last_is = record {
    codable = codable-append Fits l r 0 h.codable a;
    counted = omega (arith, counted, h.counted, length-append l r);
    is = is ∙ ap (λ t. t ++ code_after bytes last r) h.is ∙ ap (λ k. code bytes l ++ code_after bytes k r) h.last_is ∙ sym (code_after-append bytes l r 0);
    last_is = last_is ∙ ap (λ k. last_key k r) h.last_is ∙ sym (last_key-append l r 0);
  }

  pub pushed : (number : ℕ) (val : V) (whole : List ℕ) → last_key 0 l ≤ number → number < 2 ^ 64 → Fits val → whole ≡ (stored ++ leb (number - last)) ++ bytes val → IsCodeOf Fits bytes whole (len + 1) number (l ++ (number, val) ∷ [])
  pushed number val whole rises number_fits fits is =
      joined ((number, val) ∷ []) whole (len + 1) number (rises, number_fits, fits, tt)
      (is ∙ append_assoc stored (leb (number - last)) (bytes val) ∙ ap (λ t. stored ++ (leb (number - last) ++ t)) (sym (append-nil (bytes val)))) refl refl

  -- the entries before a place
  module _ {index byte key : ℕ} (p : IsPlace bytes l index byte key) where
    pub byte_within : byte ≤ length stored
    byte_within = omega (arith, ap length (h.is ∙ split_code bytes l index byte key p), length-append (code bytes (take index l)) (code_after bytes key (drop index l)), p.byte_is)

    pub started : (part : List ℕ) → part ≡ take byte stored → IsCodeOf Fits bytes part index key (take index l)
    started part is = record {
      codable = codable_front Fits (take index l) (drop index l) 0 (subst (AreCodable Fits 0) (sym (take-append-drop index l)) h.codable);
      counted = sym (length-take-le index l p.within);
      is = is ∙ ap (take byte) (h.is ∙ split_code bytes l index byte key p) ∙ take_at (code bytes (take index l)) _ byte (sym p.byte_is);
      last_is = p.key_is;
    }

    -- those from there on, where they come after a number
    pub codable_after : (before : ℕ) → NotFalling before (drop index l) → AreCodable Fits before (drop index l)
    codable_after before n = codable_from Fits (drop index l) key before (codable_at_place Fits bytes l index byte key h.codable p) n

  pub last_after : (index before : ℕ) → index < length l → last ≡ last_key before (drop index l)
  last_after index before inside =
      let i = entry_at l index inside in
      h.last_is ∙ ap (last_key 0) (sym (take-append-drop index l)) ∙ last_key-append (take index l) (drop index l) 0
      ∙ ap (last_key (last_key 0 (take index l))) i.left ∙ sym (ap (last_key before) i.left)

-- the entries from a place of others on: the first gap is coded anew
pub appended : {V : Type 0} {Fits : V → Type 0} {bytes : V → List ℕ} {stored : List ℕ} {len last : ℕ} {l : List (ℕ × V)} (h : IsCodeOf Fits bytes stored len last l) {others : List ℕ} {count end : ℕ} {r : List (ℕ × V)} (k : IsCodeOf Fits bytes others count end r) {index byte key : ℕ} (p : IsPlace bytes r index byte key) → index < length r → NotFalling (last_key 0 l) (drop index r)
    → (number at : ℕ) → ((before : ℕ) → code_after bytes before (drop index r) ≡ leb (number - before) ++ drop at (code bytes r)) → (whole : List ℕ) → whole ≡ (stored ++ leb (number - last)) ++ drop at others → IsCodeOf Fits bytes whole (len + (count - index)) end (l ++ drop index r)
appended {bytes} {stored} {len} {last} {l} h {others} {count} {end} {r} k {index} p inside rises number at rest whole is =
    joined h (drop index r) whole (len + (count - index)) end (codable_after k p (last_key 0 l) rises)
    (is ∙ append_assoc stored (leb (number - last)) (drop at others) ∙ ap (λ t. stored ++ (leb (number - last) ++ drop at t)) k.is ∙ ap (λ t. stored ++ t) (sym (rest last)))
    (omega (arith, k.counted, length-drop index r)) (last_after k index last inside)

-- the first of the entries from an index on
pub first_rises : {V : Type 0} (es : List (ℕ × V)) (index number before : ℕ) (val : V) → NotFalling before (drop index es) → slice_get es index ≡ Some (number, val) → before ≤ number
first_rises es index number before val n got =
    let i = entry_at es index (slice_get_within es index (number, val) got) in
    let rises = subst (NotFalling before) i.left n in
    let same : i.entry.0 ≡ number = cc in
    omega (arith, rises.0)
