-- The first entry that passes a test, beside an entry and at the end of a front.
use Rattle.std.proofs.Common.{◌≡◌, ℕ, Bool, true, false, cond, List, [], ◌∷◌, ◌++◌, take, drop, take-append-drop, Some, None, refl, sym, ap, ◌∙◌}
use Rattle.std.specs.List.{filter, slice_get}
use Rattle.std.proofs.lemmas.List.Elements.{filter-append}

module _ {E : Type 0} where
  front_first : (a b : List E) (x : E) → slice_get a 0 ≡ Some x → slice_get (a ++ b) 0 ≡ Some x
  front_first [] b x h = cc
  front_first (y ∷ a) b x h = h

  -- no first, and so none
  pub none_first : (a : List E) → slice_get a 0 ≡ None → a ≡ []
  none_first [] h = refl
  none_first (y ∷ a) h = cc

module _ {E : Type 0} (p : E → Bool) (whole l : List E) (e : E) (r : List E) (is : whole ≡ l ++ e ∷ r) where
  sides : slice_get (filter p whole) 0 ≡ slice_get (filter p l ++ filter p (e ∷ r)) 0
  sides = ap (λ m. slice_get (filter p m) 0) is ∙ ap (λ m. slice_get m 0) (filter-append p l (e ∷ r))

  -- in front of the entry
  pub first_left : (x : E) → slice_get (filter p l) 0 ≡ Some x → slice_get (filter p whole) 0 ≡ Some x
  first_left x found = sides ∙ front_first (filter p l) (filter p (e ∷ r)) x found

  -- the entry itself
  pub first_here : filter p l ≡ [] → p e ≡ true → slice_get (filter p whole) 0 ≡ Some e
  first_here none passes = sides ∙ ap (λ m. slice_get (m ++ filter p (e ∷ r)) 0) none ∙ ap (λ b. slice_get (cond b (e ∷ filter p r) (filter p r)) 0) passes

  -- behind the entry
  pub first_right : filter p l ≡ [] → p e ≡ false → slice_get (filter p whole) 0 ≡ slice_get (filter p r) 0
  first_right none fails = sides ∙ ap (λ m. slice_get (m ++ filter p (e ∷ r)) 0) none ∙ ap (λ b. slice_get (cond b (e ∷ filter p r) (filter p r)) 0) fails

module _ {E : Type 0} (p : E → Bool) (m : List E) (i : ℕ) (e : E) where
  -- the one entry of a front that passes
  pub first_at_end : filter p (take i m) ≡ e ∷ [] → slice_get (filter p m) 0 ≡ Some e
  first_at_end is =
      ap (λ l. slice_get (filter p l) 0) (sym (take-append-drop i m))
      ∙ ap (λ l. slice_get l 0) (filter-append p (take i m) (drop i m))
      ∙ ap (λ l. slice_get (l ++ filter p (drop i m)) 0) is
