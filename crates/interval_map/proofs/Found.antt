-- Whether a list has an item.
use Rattle.std.proofs.Common.{◌≡◌, ◌↔◌, Bool, true, false, List, [], ◌∷◌, refl}

abbrev pub some_of : {X : Type 0} → List X → Bool
some_of [] = false
some_of (x ∷ xs) = true

pub some_of_is : {X : Type 0} (xs : List X) → (some_of xs ≡ true) ↔ ¬ (xs ≡ [])
some_of_is [] = (λ h. cc, λ h. absurd (h refl))
some_of_is (x ∷ xs) = (λ h e. cc, λ h. refl)
