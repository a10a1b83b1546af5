-- What is first in a part of a sequence is first in the whole, so many places further.
use Rattle.std.proofs.Common.{◌≡◌, ℕ, ◌+◌, Bool, true, false, List, [], ◌∷◌, ◌++◌, length, Option, Some, None, sym, subst, arith}
use Rattle.map_model.specs.Fold.{IsMonoidOver}
use Rattle.seq_core.specs.Sums.{sum_of}
use Rattle.pac_seq.specs.Passing.{IsFirstOf, StaysPassed, passes_behind}
use Rattle.pac_seq.proofs.Passes.{first_item, first_left, first_right, none_right}

-- a place, if there is one, so many places further
abbrev pub further : ℕ → Option ℕ → Option ℕ
further n None = None
further n (Some place) = Some (n + place)

module _ {E X : Type 0} (image : E → X) (unit : X) (combine : X → X → X) (passes : X → Bool) where
  -- the first place of a part behind one sum is the whole's first place behind another one, so many places further
  abbrev pub Carries : X → List E → ℕ → X → List E → Type 0
  Carries sum part n before whole = (o : Option ℕ) → IsFirstOf (length part) (passes_behind image unit combine passes sum part) o → IsFirstOf (length whole) (passes_behind image unit combine passes before whole) (further n o)

  pub carries_whole : (before : X) (whole : List E) → Carries before whole 0 before whole
  carries_whole before whole None all = all
  carries_whole before whole (Some place) first = subst (λ i. IsFirstOf (length whole) (passes_behind image unit combine passes before whole) (Some i)) (omega arith) first

  pub carries_none : (sum : X) (part : List E) (n : ℕ) (before : X) (whole : List E) → Carries sum part n before whole → part ≡ [] → IsFirstOf (length whole) (passes_behind image unit combine passes before whole) None
  carries_none sum part n before whole carries is = carries None (subst (λ p. IsFirstOf (length p) (passes_behind image unit combine passes sum p) None) (sym is) (λ i h. absurd (omega (arith, h))))

module _ {E X : Type 0} {Fits : X → Type 0} {image : E → X} {unit : X} {combine : X → X → X} {passes : X → Bool}
    (monoid : IsMonoidOver Fits unit combine) (image_fits : (e : E) → Fits (image e)) (stays : StaysPassed Fits combine passes)
    (sum : X) (fits : Fits sum) (part l : List E) (e : E) (r : List E) (is : part ≡ l ++ e ∷ r)
    (n : ℕ) (before : X) (whole : List E) (carries : Carries image unit combine passes sum part n before whole) where
  abbrev front : X
  front = combine sum (sum_of image unit combine l)

  over_node : (o : Option ℕ) → IsFirstOf (length (l ++ e ∷ r)) (passes_behind image unit combine passes sum (l ++ e ∷ r)) o → IsFirstOf (length whole) (passes_behind image unit combine passes before whole) (further n o)
  over_node o first = carries o (subst (λ p. IsFirstOf (length p) (passes_behind image unit combine passes sum p) o) (sym is) first)

  pub carries_left : passes sum ≡ false → passes front ≡ true → Carries image unit combine passes sum l n before whole
  carries_left fails passed o first = over_node o (first_left monoid image_fits stays sum fits l e r fails passed o first)

  pub carries_item : passes front ≡ false → passes (combine front (image e)) ≡ true → IsFirstOf (length whole) (passes_behind image unit combine passes before whole) (Some (n + length l))
  carries_item fails passed = over_node (Some (length l)) (first_item monoid image_fits stays sum fits l e r fails passed)

  pub carries_right : passes front ≡ false → passes (combine front (image e)) ≡ false → Carries image unit combine passes (combine front (image e)) r (n + (length l + 1)) before whole
  carries_right fails neither None all = over_node None (none_right monoid image_fits stays sum fits l e r fails neither all)
  carries_right fails neither (Some place) first =
      subst (λ i. IsFirstOf (length whole) (passes_behind image unit combine passes before whole) (Some i)) (omega arith)
      (over_node (Some (length l + 1 + place)) (first_right monoid image_fits stays sum fits l e r fails neither place first))
