-- Lists of copies of one value, and one more.
use Rattle.std.proofs.Common.{◌≡◌, ℕ, zero, suc, ◌+◌, ◌<◌, List, [], ◌∷◌, ◌++◌, length, Some, refl, ◌∙◌, ap, subst, sym, arith}
use Rattle.std.proofs.lemmas.List.Elements.{All-append}
use Rattle.std.specs.Prelude.{All, slice_get}
use mathlib.Core.Logic.{dite}
use native.Mathlib.Decide.{ℕ_discrete}

all_one : {A : Type 0} (P : A → Type 0) (x : A) → P x → All P (x ∷ [])
all_one P x is zero d h = is
all_one P x is (suc k) d h = absurd (omega arith)

pub copies_more : {A : Type 0} (value x : A) (xs ys : List A) → ys ≡ xs ++ x ∷ [] → x ≡ value → All (λ y. y ≡ value) xs → All (λ y. y ≡ value) ys
copies_more value x xs ys more is all = subst (All (λ y. y ≡ value)) (sym more) (All-append (λ y. y ≡ value) xs (x ∷ []) all (all_one (λ y. y ≡ value) x is))

module _ {A : Type 0} (x : A) where
  last_of : (xs : List A) → slice_get (xs ++ x ∷ []) (length xs) ≡ Some x
  last_of [] = refl
  last_of (y ∷ ys) = last_of ys

  below_last : (xs : List A) (i : ℕ) → i < length xs → slice_get (xs ++ x ∷ []) i ≡ slice_get xs i
  below_last [] i h = absurd (omega arith)
  below_last (y ∷ ys) zero h = refl
  below_last (y ∷ ys) (suc i) h = below_last ys i (omega arith)

-- the value stands at each index that P picks, and so it does in a list with one more
pub picked_more : {A : Type 0} (P : ℕ → Type 0) (value x : A) (xs ys : List A) (n : ℕ) → length xs ≡ n → ys ≡ xs ++ x ∷ [] → (P n → x ≡ value)
    → ((i : ℕ) → i < n → P i → slice_get xs i ≡ Some value) → (i : ℕ) → i < n + 1 → P i → slice_get ys i ≡ Some value
picked_more P value x xs ys n long more is all i h p = ap (λ zs. slice_get zs i) more ∙ dite (ℕ_discrete i n)
    (λ e. ap (slice_get (xs ++ x ∷ [])) (e ∙ sym long) ∙ last_of x xs ∙ ap (λ y. Some y) (is (subst P e p)))
    (λ ne. below_last x xs i (omega arith) ∙ all i (omega arith) p)
