-- Where the sum of the items of a sequence passes a test, by its parts.
use Rattle.std.proofs.Common.{◌≡◌, ℕ, suc, ◌+◌, ◌-◌, ◌<◌, ◌≤◌, Bool, true, false, List, [], ◌∷◌, ◌++◌, length, take, drop, Option, Some, None, refl, sym, ap, subst, ◌∙◌, inl, inr, arith}
use Rattle.std.proofs.Math.Seq.{take-append-add}
use Rattle.std.proofs.lemmas.Bool.{cases_lt}
use Rattle.std.proofs.lemmas.List.{take-append-drop, take-append-le, take_all}
use Rattle.map_model.specs.Fold.{IsMonoidOver}
use Rattle.map_model.proofs.Cuts.{length-around}
use Rattle.seq_core.specs.Sums.{sum_of}
use Rattle.seq_core.proofs.Parts.{take-around}
use Rattle.seq_core.proofs.Sums.{sum-fits, sum-append, sum-one}
use Rattle.pac_seq.specs.Passing.{IsFirstOf, StaysPassed, passes_at, passes_behind}

module _ {E X : Type 0} {Fits : X → Type 0} {image : E → X} {unit : X} {combine : X → X → X} {passes : X → Bool}
    (monoid : IsMonoidOver Fits unit combine) (image_fits : (e : E) → Fits (image e)) (stays : StaysPassed Fits combine passes) where
  abbrev sum : List E → X
  sum = sum_of image unit combine

  -- what does not pass did not before
  not_before : (a b : X) → Fits a → Fits b → passes (combine a b) ≡ false → passes a ≡ false
  not_before a b p q fails =
      elim (passes a) as (λ t. passes a ≡ t → t ≡ false) [
        | true ↦ λ is. (let passed = stays a b p q is in cc)
        | false ↦ λ is. refl
      ] refl

  -- items behind a sum, in two steps
  behind : (before : X) (l r : List E) → Fits before → combine before (sum (l ++ r)) ≡ combine (combine before (sum l)) (sum r)
  behind before l r p =
      ap (combine before) (sum-append monoid image_fits l r) ∙ sym (monoid.assoc before (sum l) (sum r) p (sum-fits monoid image_fits l) (sum-fits monoid image_fits r))

  -- where a whole list does not pass, none of its items does
  pub none_within : (before : X) (l : List E) → Fits before → passes (combine before (sum l)) ≡ false → (i : ℕ) → passes_behind image unit combine passes before l i ≡ false
  none_within before l p fails i =
      let parts : combine before (sum l) ≡ combine (combine before (sum (take (i + 1) l))) (sum (drop (i + 1) l)) =
      ap (λ x. combine before (sum x)) (sym (take-append-drop (i + 1) l)) ∙ behind before (take (i + 1) l) (drop (i + 1) l) p in
      not_before _ _ (monoid.combine_fits _ _ p (sum-fits monoid image_fits (take (i + 1) l))) (sum-fits monoid image_fits (drop (i + 1) l)) (subst (λ x. passes x ≡ false) parts fails)

  alone : (items : List E) (i : ℕ) → passes_behind image unit combine passes unit items i ≡ passes_at image unit combine passes items i
  alone items i = ap passes (monoid.left_unit _ (sum-fits monoid image_fits (take (i + 1) items)))

  module _ (before : X) (fits : Fits before) (l : List E) (e : E) (r : List E) where
    abbrev whole : List E
    whole = l ++ e ∷ r

    abbrev here : ℕ → Bool
    here = passes_behind image unit combine passes before whole

    within_left : (i : ℕ) → i < length l → here i ≡ passes_behind image unit combine passes before l i
    within_left i h = ap (λ x. passes (combine before (sum x))) (take-append-le (i + 1) l (e ∷ r) (omega (arith, h)))

    at_item : here (length l) ≡ passes (combine (combine before (sum l)) (image e))
    at_item =
        ap (λ x. passes (combine before (sum x))) (take-append-add l (e ∷ r) 1)
        ∙ ap passes (behind before l (e ∷ []) fits ∙ ap (combine (combine before (sum l))) (sum-one monoid image_fits e))

    within_right : (j : ℕ) → here (length l + 1 + j) ≡ passes_behind image unit combine passes (combine (combine before (sum l)) (image e)) r j
    within_right j =
        let items : take (length l + 1 + j + 1) whole ≡ l ++ e ∷ take (j + 1) r =
        take-around l e r (length l + 1 + j + 1) (omega arith) ∙ ap (λ n. l ++ e ∷ take n r) (omega arith) in
        let two = monoid.assoc (combine before (sum l)) (image e) (sum (take (j + 1) r)) (monoid.combine_fits _ _ fits (sum-fits monoid image_fits l)) (image_fits e) (sum-fits monoid image_fits (take (j + 1) r)) in
        ap (λ x. passes (combine before (sum x))) items ∙ ap passes (behind before l (e ∷ take (j + 1) r) fits ∙ sym two)

    -- the left side's own answer, where the whole of it passes and what stands before does not
    pub first_left : passes before ≡ false → passes (combine before (sum l)) ≡ true → (o : Option ℕ) → IsFirstOf (length l) (passes_behind image unit combine passes before l) o → IsFirstOf (length whole) here o
    first_left fails passed None all =
        absurd (not_none l refl)
      where
        not_none : (m : List E) → l ≡ m → ⊥
        not_none [] is = (let unit_is = monoid.right_unit before fits in let back = subst (λ x. passes (combine before (sum x)) ≡ true) is passed in cc)
        not_none (x ∷ m) is =
            let size : length l ≡ suc (length m) = ap length is in
            let full : take (length m + 1) l ≡ l = take_all (length m + 1) l (omega (arith, size)) in
            let last : passes (combine before (sum (take (length m + 1) l))) ≡ false = all (length m) (omega (arith, size)) in
            let last_is = subst (λ y. passes (combine before (sum y)) ≡ false) full last in
            cc
    first_left fails passed (Some place) first =
        (omega (arith, first.0, length-around l e r), within_left place first.0 ∙ first.1, λ i h. within_left i (omega (arith, h, first.0)) ∙ first.2 i h)

    -- the item's place
    pub first_item : passes (combine before (sum l)) ≡ false → passes (combine (combine before (sum l)) (image e)) ≡ true → IsFirstOf (length whole) here (Some (length l))
    first_item fails passed =
        (omega (arith, length-around l e r), at_item ∙ passed, λ i h. within_left i h ∙ none_within before l fits fails i)

    none_front : passes (combine before (sum l)) ≡ false → passes (combine (combine before (sum l)) (image e)) ≡ false → (i : ℕ) → i < length l + 1 → here i ≡ false
    none_front fails none i h =
        elim (cases_lt i (length l)) [
          | inl inside ↦ within_left i inside ∙ none_within before l fits fails i
          | inr past ↦ (let is : i ≡ length l = omega (arith, past, h) in ap here is ∙ at_item ∙ none)
        ]

    -- the right side's answer, behind the left side and the item
    pub none_right : passes (combine before (sum l)) ≡ false → passes (combine (combine before (sum l)) (image e)) ≡ false
        → IsFirstOf (length r) (passes_behind image unit combine passes (combine (combine before (sum l)) (image e)) r) None → IsFirstOf (length whole) here None
    none_right fails none all i h =
        elim (cases_lt i (length l + 1)) [
          | inl inside ↦ none_front fails none i inside
          | inr past ↦
              let is : i ≡ length l + 1 + (i - (length l + 1)) = omega (arith, past) in
              ap here is ∙ within_right (i - (length l + 1)) ∙ all (i - (length l + 1)) (omega (arith, past, h, length-around l e r))
        ]

    pub first_right : passes (combine before (sum l)) ≡ false → passes (combine (combine before (sum l)) (image e)) ≡ false → (place : ℕ)
        → IsFirstOf (length r) (passes_behind image unit combine passes (combine (combine before (sum l)) (image e)) r) (Some place) → IsFirstOf (length whole) here (Some (length l + 1 + place))
    first_right fails none place first = (
      omega (arith, first.0, length-around l e r),
      within_right place ∙ first.1,
      λ i h.
          elim (cases_lt i (length l + 1)) [
            | inl inside ↦ none_front fails none i inside
            | inr past ↦
                let is : i ≡ length l + 1 + (i - (length l + 1)) = omega (arith, past) in
                ap here is ∙ within_right (i - (length l + 1)) ∙ first.2 (i - (length l + 1)) (omega (arith, past, h))
          ],
    )

  -- behind the sum of no items
  pub from_unit : (items : List E) (o : Option ℕ) → IsFirstOf (length items) (passes_behind image unit combine passes unit items) o → IsFirstOf (length items) (passes_at image unit combine passes items) o
  from_unit items None all = λ i h. sym (alone items i) ∙ all i h
  from_unit items (Some place) first = (first.0, sym (alone items place) ∙ first.1, λ i h. sym (alone items i) ∙ first.2 i h)
