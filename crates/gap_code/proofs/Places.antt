-- A place in a leaf, and the step to the next.
use Rattle.std.proofs.Common.{◌≡◌, ℕ, ◌+◌, ◌-◌, ◌^◌, ◌<◌, ◌≤◌, List, [], ◌∷◌, ◌++◌, length, take, drop, refl, sym, ap, subst, ◌∙◌, arith, append-nil, length-append, length-drop, take-append-drop, Some, ap₂}
use Rattle.std.proofs.lemmas.List.{drop_at, drop-drop}
use Rattle.std.specs.List.{slice_get}
use Rattle.gap_code.specs.Leb.{leb, number_of, BeginsWith}
use Rattle.gap_code.specs.LebLaws.{leb_some}
use Rattle.gap_code.specs.Code.{code_after, code, last_key, AreCodable, IsPlace, IsCodeOf}
use Rattle.gap_code.proofs.Codes.{number_first, code_after-append, last_key-append, codable_back, entry_at}

-- the code is split at a place
pub split_code : {V : Type 0} (bytes : V → List ℕ) (es : List (ℕ × V)) (index byte key : ℕ) → IsPlace bytes es index byte key → code bytes es ≡ code bytes (take index es) ++ code_after bytes key (drop index es)
split_code bytes es index byte key p =
    ap (code bytes) (sym (take-append-drop index es)) ∙ code_after-append bytes (take index es) (drop index es) 0
    ∙ ap (λ k. code bytes (take index es) ++ code_after bytes k (drop index es)) (sym p.key_is)

pub code_at_place : {V : Type 0} (bytes : V → List ℕ) (es : List (ℕ × V)) (stored : List ℕ) (index byte key : ℕ) → stored ≡ code bytes es → IsPlace bytes es index byte key → drop byte stored ≡ code_after bytes key (drop index es)
code_at_place bytes es stored index byte key is p =
    ap (drop byte) (is ∙ split_code bytes es index byte key p) ∙ drop_at (code bytes (take index es)) _ byte (sym p.byte_is)

pub codable_at_place : {V : Type 0} (Fits : V → Type 0) (bytes : V → List ℕ) (es : List (ℕ × V)) (index byte key : ℕ) → AreCodable Fits 0 es → IsPlace bytes es index byte key → AreCodable Fits key (drop index es)
codable_at_place Fits bytes es index byte key a p =
    subst (λ k. AreCodable Fits k (drop index es)) (sym p.key_is) (codable_back Fits (take index es) (drop index es) 0 (subst (AreCodable Fits 0) (sym (take-append-drop index es)) a))

-- past the bytes of one thing
pub past : (front others from : List ℕ) (at : ℕ) → drop at from ≡ front ++ others → drop (at + length front) from ≡ others
past front others from at is = sym (drop-drop (length front) at from) ∙ ap (drop (length front)) is ∙ drop_at front others _ refl

-- the entry at a place, which stands there as its gap and its value
module _ {V : Type 0} {Fits : V → Type 0} {bytes : V → List ℕ} {stored : List ℕ} {len last : ℕ} {es : List (ℕ × V)} (h : IsCodeOf Fits bytes stored len last es) {index byte key : ℕ} (p : IsPlace bytes es index byte key) (inside : index < length es) where
  abbrev e : ℕ × V
  e = (entry_at es index inside).entry

  abbrev others : List ℕ
  others = code_after bytes e.0 (drop (index + 1) es)

  codable : AreCodable Fits key (e ∷ drop (index + 1) es)
  codable = subst (AreCodable Fits key) (entry_at es index inside).left (codable_at_place Fits bytes es index byte key h.codable p)

  stands : drop byte (code bytes es) ≡ leb (e.0 - key) ++ (bytes e.1 ++ others)
  stands = code_at_place bytes es (code bytes es) index byte key refl p ∙ ap (code_after bytes key) (entry_at es index inside).left

  pub begins : BeginsWith (λ n. n < 2 ^ 64) leb (drop byte (code bytes es))
  begins = let f = codable.1 in record { value = e.0 - key; others = bytes e.1 ++ others; fits = omega arith; is = stands }

  module _ (gap at : ℕ) (gap_is : gap ≡ number_of (drop byte (code bytes es))) (at_is : at ≡ byte + length (leb (number_of (drop byte (code bytes es))))) where
    first : number_of (drop byte (code bytes es)) ≡ e.0 - key
    first = number_first _ _ _ stands

    number : key + gap ≡ e.0
    number = omega (arith, gap_is, first, codable.0)

    there : at ≡ byte + length (leb (e.0 - key))
    there = at_is ∙ ap (λ m. byte + length (leb m)) first

    left : drop at (code bytes es) ≡ bytes e.1 ++ others
    left = ap (λ m. drop m (code bytes es)) there ∙ past (leb (e.0 - key)) (bytes e.1 ++ others) (code bytes es) byte stands

    pub number_fits : key + gap < 2 ^ 64
    number_fits = omega (arith, number, codable.1)

    pub within : at ≤ length (code bytes es)
    within = omega (arith, there, leb_some (e.0 - key), ap length stands, length-append (leb (e.0 - key)) (bytes e.1 ++ others), length-drop byte (code bytes es))

    pub reads : BeginsWith Fits bytes (drop at (code bytes es))
    reads = record { value = e.1; others = others; fits = codable.2; is = left }

    pub rest : (before : ℕ) → code_after bytes before (drop index es) ≡ leb (key + gap - before) ++ drop at (code bytes es)
    rest before = ap (code_after bytes before) (entry_at es index inside).left ∙ ap₂ (λ n t. leb (n - before) ++ t) (sym number) (sym left)

    module _ (value_at : List ℕ → V) (read_back : (v : V) (others : List ℕ) → Fits v → value_at (bytes v ++ others) ≡ v) where
      value : value_at (drop at (code bytes es)) ≡ e.1
      value = ap value_at left ∙ read_back e.1 others codable.2

      pub entry : slice_get es index ≡ Some (key + gap, value_at (drop at (code bytes es)))
      entry = (entry_at es index inside).got ∙ ap₂ (λ n v. Some (n, v)) (sym number) (sym value)

      longer : length (code bytes (take (index + 1) es)) ≡ length (code bytes (take index es)) + (length (leb (e.0 - key)) + length (bytes e.1))
      longer =
          ap (λ t. length (code bytes t)) (entry_at es index inside).taken ∙ ap length (code_after-append bytes (take index es) (e ∷ []) 0) ∙ length-append _ _
          ∙ ap (λ k. length (code bytes (take index es)) + length (leb (e.0 - k) ++ (bytes e.1 ++ []))) (sym p.key_is)
          ∙ ap (λ t. length (code bytes (take index es)) + length (leb (e.0 - key) ++ t)) (append-nil (bytes e.1)) ∙ ap (λ m. length (code bytes (take index es)) + m) (length-append _ _)

      pub next : IsPlace bytes es (index + 1) (at + length (bytes (value_at (drop at (code bytes es))))) (key + gap)
      next = record {
        within = omega (arith, inside);
        byte_is = omega (arith, ap (λ v. length (bytes v)) value, there, p.byte_is, longer);
        key_is = number ∙ sym (ap (last_key 0) (entry_at es index inside).taken ∙ last_key-append (take index es) (e ∷ []) 0);
      }
