-- What a list contains, by its first element.
use Rattle.std.proofs.Common.{◌≡◌, ◌⊎◌, zero, List, [], ◌∷◌, Contains, inl, inr, refl, arith}
use Rattle.std.proofs.lemmas.List.Elements.{Contains-append_right, Contains-append_cases, Contains-push_cases}

module _ {X : Type 0} where
  pub nothing_there : (x : X) → ¬ (Contains [] x)
  nothing_there x h = absurd (omega (arith, h.1))

  pub first_there : (x : X) (xs : List X) → Contains (x ∷ xs) x
  first_there x xs = (zero, omega arith, refl)

  pub there_behind : (y : X) (xs : List X) (x : X) → Contains xs x → Contains (y ∷ xs) x
  there_behind y xs x h = Contains-append_right (y ∷ []) xs x h

  pub there_cases : (y : X) (xs : List X) (x : X) → Contains (y ∷ xs) x → (y ≡ x) ⊎ Contains xs x
  there_cases y xs x h = elim (Contains-append_cases (y ∷ []) xs x h) [
    | inl first ↦ elim (Contains-push_cases [] y x first) [ inl none ↦ absurd (nothing_there x none) | inr same ↦ inl same ]
    | inr later ↦ inr later
  ]
