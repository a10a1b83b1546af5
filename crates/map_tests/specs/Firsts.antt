-- The first list that is not empty.
use Rattle.std.specs.Prelude.{◌≡◌, ℕ, List, [], ◌∷◌, ◌==◌, if◌then◌else◌}
use Rattle.std.proofs.Common.{refl}
use Rattle.map_model.specs.Fold.{IsMonoidOver}

abbrev pub first_filled : {E : Type 0} → List E → List E → List E
first_filled [] b = b
first_filled (x ∷ a) b = x ∷ a

-- the weight of a number, if it is not 0
abbrev pub posting_of : ℕ → ℕ → List (ℕ × ℕ)
posting_of number weight = if weight == 0 then [] else (number, weight) ∷ []

pub first_monoid : {E : Type 0} → IsMonoidOver {X = List E} (λ _. Unit {0}) [] first_filled
first_monoid {E} = record {
  unit_fits = tt;
  combine_fits = λ _ _ _ _. tt;
  left_unit = λ _ _. refl;
  right_unit = λ a _. right a;
  assoc = λ a b c _ _ _. assoc a b c;
}
  where
    right : {E : Type 0} → (a : List E) → first_filled a [] ≡ a
    right [] = refl
    right (x ∷ a) = refl

    assoc : {E : Type 0} → (a b c : List E) → first_filled (first_filled a b) c ≡ first_filled a (first_filled b c)
    assoc [] b c = refl
    assoc (x ∷ a) b c = refl
