-- Bytes of terms, and the terms of a text's parts.
use Rattle.std.specs.Borrow.{Bor}
use Rattle.std.proofs.Common.{◌≡◌, ◌==◌, ◌&&◌, ℕ, Bool, true, false, cond, List, [], ◌∷◌, length, map, not, refl, sym, ap₂, ◌∙◌, subst, arith}
use Rattle.std.specs.List.{AllByRecursion, filter, list_all, onto_first, slice_split}
use Rattle.std.specs.Char.{is_ascii_alphanumeric, to_ascii_lowercase}
use Rattle.std.proofs.lemmas.Bool.{eqb-true}
use Rattle.std.proofs.lemmas.Bool.Decides.{nat_tests}
use Rattle.std.proofs.lemmas.Str.Ascii.{lowercase-lowercase}
use Rattle.inverted_index.specs.Terms.{IsTerm, is_filled, is_term, separates, small}

pub filled_all : (bytes : List ℕ) → (length bytes == 0) ≡ false → list_all is_ascii_alphanumeric bytes ≡ is_term bytes
filled_all [] h = cc
filled_all (b ∷ bytes) h = refl

pub filled_none : (bytes : List ℕ) → (length bytes == 0) ≡ true → false ≡ is_term bytes
filled_none [] h = refl
filled_none (b ∷ bytes) h = absurd (let e : length (b ∷ bytes) ≡ 0 = eqb-true (length (b ∷ bytes)) 0 h in omega arith)

-- the terms of some parts
abbrev pub terms_among : List (List ℕ) → List (List ℕ)
terms_among parts = map small (filter is_filled parts)

-- ---- small letters

alphanumeric_small : (b : ℕ) → is_ascii_alphanumeric b ≡ true → is_ascii_alphanumeric (to_ascii_lowercase b) ≡ true
alphanumeric_small b h = grind (arith, nat_tests)

both : (s t : Bool) → s ≡ true → t ≡ true → (s && t) ≡ true
both s t h k = ap₂ (λ x y. x && y) h k

first_true : (s t : Bool) → (s && t) ≡ true → s ≡ true
first_true true t h = refl
first_true false t h = h

second_true : (s t : Bool) → (s && t) ≡ true → t ≡ true
second_true true t h = h
second_true false t h = absurd (let bad : false ≡ true = h in cc)

all_small : (bytes : List ℕ) → list_all is_ascii_alphanumeric bytes ≡ true → list_all is_ascii_alphanumeric (small bytes) ≡ true
all_small [] h = refl
all_small (b ∷ bytes) h =
    let here = is_ascii_alphanumeric b in
    let rest = list_all is_ascii_alphanumeric bytes in
    both (is_ascii_alphanumeric (to_ascii_lowercase b)) (list_all is_ascii_alphanumeric (small bytes)) (alphanumeric_small b (first_true here rest h)) (all_small bytes (second_true here rest h))

small_small : (bytes : List ℕ) → small (small bytes) ≡ small bytes
small_small [] = refl
small_small (b ∷ bytes) = ap₂ (λ x xs. x ∷ xs) (lowercase-lowercase b) (small_small bytes)

small_lawful : (bytes : List ℕ) → is_term bytes ≡ true → is_term (small bytes) ≡ true
small_lawful [] h = h
small_lawful (b ∷ bytes) h = all_small (b ∷ bytes) h

pub small_term : (t bytes : List ℕ) → t ≡ small bytes → is_term bytes ≡ true → IsTerm t
small_term t bytes is h = let Is : List ℕ → Type 0 = λ x. IsTerm x in subst Is (sym is) (record { lawful = small_lawful bytes h; is_small = small_small bytes })

-- ---- the parts of a text

abbrev letters : List ℕ → Type 0
letters part = list_all is_ascii_alphanumeric part ≡ true

alphanumeric_from : (s : Bool) → not s ≡ false → s ≡ true
alphanumeric_from true h = refl
alphanumeric_from false h = absurd (let bad : true ≡ false = h in cc)

onto_letters : (b : ℕ) (parts : List (List ℕ)) → is_ascii_alphanumeric b ≡ true → AllByRecursion letters parts → AllByRecursion letters (onto_first b parts)
onto_letters b [] h all = (both (is_ascii_alphanumeric b) true h refl, tt)
onto_letters b (part ∷ parts) h all = (both (is_ascii_alphanumeric b) (list_all is_ascii_alphanumeric part) h all.0, all.1)

parts_letters : (text : List ℕ) → AllByRecursion letters (slice_split separates text)
parts_letters [] = (refl, tt)
parts_letters (b ∷ text) =
    elim (separates b) as (λ t. separates b ≡ t → AllByRecursion letters (cond t ([] ∷ slice_split separates text) (onto_first b (slice_split separates text)))) [
      | true ↦ λ is. (refl, parts_letters text)
      | false ↦ λ is. onto_letters b (slice_split separates text) (alphanumeric_from (is_ascii_alphanumeric b) is) (parts_letters text)
    ] refl

lent : (parts : List (Bor (List ℕ))) → AllByRecursion letters (map (λ part. part.now) parts) → AllByRecursion (λ part. letters part.now) parts
lent [] all = tt
lent (part ∷ parts) all = (all.0, lent parts all.1)

pub lent_letters : (parts : List (Bor (List ℕ))) (text : List ℕ) → map (λ part. part.now) parts ≡ slice_split separates text → AllByRecursion (λ part. list_all is_ascii_alphanumeric part.now ≡ true) parts
lent_letters parts text is = let All : List (List ℕ) → Type 0 = λ x. AllByRecursion letters x in lent parts (subst All (sym is) (parts_letters text))

-- a part that is not empty is a term
pub filled_term : (bytes : List ℕ) → (length bytes == 0) ≡ false → list_all is_ascii_alphanumeric bytes ≡ true → is_term bytes ≡ true
filled_term bytes filled all = sym (filled_all bytes filled) ∙ all
