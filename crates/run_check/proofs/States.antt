-- States along batches.
use Rattle.std.proofs.Common.{◌≡◌, ◌∙◌, ℕ, zero, suc, ◌≤◌, ◌-◌, List, [], ◌∷◌, ◌++◌, length, take, drop, refl, sym, ap, arith}
use Rattle.std.specs.Prelude.{fold}
use Rattle.std.specs.List.{flat_map}
use Rattle.std.proofs.Math.Seq.{take-length}
use Rattle.std.proofs.lemmas.Grind.{flat_map-append, fold-append}
use Rattle.std.proofs.lemmas.List.{length-drop, take-append-drop}
use Rattle.versions.specs.History.{after}
use Rattle.run_check.specs.Reading.{between}

take_none : (X : Type 0) (n : ℕ) → take {A = X} n [] ≡ []
take_none X zero = refl
take_none X (suc n) = refl

take_seam : {X : Type 0} (m n : ℕ) (xs : List X) → m ≤ n → take m xs ++ between m n xs ≡ take n xs
take_seam {X} zero n xs h = ap (λ (k : ℕ). take k xs) (let q : n - 0 ≡ n = omega arith in q)
take_seam {X} (suc m) zero xs h = absurd (omega (arith, h))
take_seam {X} (suc m) (suc n) [] h = take_none X (suc n - suc m)
take_seam {X} (suc m) (suc n) (x ∷ xs) h = ap (λ l. x ∷ l) (ap (λ (k : ℕ). take m xs ++ take k (drop m xs)) (let q : suc n - suc m ≡ n - m = omega arith in q) ∙ take_seam m n xs (omega (arith, h)))

-- all that is left
pub between_rest : {X : Type 0} (m : ℕ) (xs : List X) → between m (length xs) xs ≡ drop m xs
between_rest {X} m xs = ap (λ (k : ℕ). take k (drop m xs)) (sym (length-drop m xs)) ∙ take-length (drop m xs)

between_none : {X : Type 0} (m n : ℕ) (xs : List X) → m ≡ n → between m n xs ≡ []
between_none {X} m n xs same = ap (λ (k : ℕ). take k (drop m xs)) (let z : n - m ≡ 0 = omega (arith, same) in z)

module _ {S O : Type 0} (step : S → O → S) where
  after_both : (base : S) (xs ys : List (List O)) → after step base (xs ++ ys) ≡ after step (after step base xs) ys
  after_both base xs ys =
      ap (fold step base) (flat_map-append (λ (l : List O). l) xs ys) ∙ fold-append step base (flat_map (λ (l : List O). l) xs) (flat_map (λ (l : List O). l) ys)

  pub stays : (state : S) (batches : List (List O)) (m n : ℕ) → m ≡ n → state ≡ after step state (between m n batches)
  stays state batches m n same = sym (ap (after step state) (between_none m n batches same))

  -- further along the batches
  pub further : (base state : S) (batches : List (List O)) (m n : ℕ) → m ≤ n → state ≡ after step base (take m batches) → after step state (between m n batches) ≡ after step base (take n batches)
  further base state batches m n least is =
      ap (λ (s : S). after step s (between m n batches)) is ∙ sym (after_both base (take m batches) (between m n batches)) ∙ ap (after step base) (take_seam m n batches least)

  -- to their end
  pub to_the_end : (base state : S) (batches : List (List O)) (m : ℕ) → state ≡ after step base (take m batches) → after step state (drop m batches) ≡ after step base batches
  to_the_end base state batches m is =
      ap (λ (s : S). after step s (drop m batches)) is ∙ sym (after_both base (take m batches) (drop m batches)) ∙ ap (after step base) (take-append-drop m batches)
