-- Keys are in the order of their numbers.
use Rattle.std.proofs.Common.{◌≡◌, ℕ, suc, true, false, cond, List, [], ◌∷◌, length, map, Some, refl, sym, ap, ap₂, ◌∙◌, subst}
use Rattle.std.specs.Ordering.{nat_cmp, is_eq, is_lt}
use Rattle.std.specs.declared.cmp.Ordering.{Ordering}
use Rattle.map_model.specs.Entries.{AllAbove, IsIncreasing, below, lookup}
use Rattle.diff_leaf.specs.Numbers.{key_entry}

module _ {K V : Type 0} (order : K → K → Ordering) (key_of : ℕ → K) (ordered : (a b : ℕ) → order (key_of a) (key_of b) ≡ nat_cmp a b) where
  keys_above : (n : ℕ) (es : List (ℕ × V)) → AllAbove nat_cmp es n → AllAbove order (map (key_entry key_of) es) (key_of n)
  keys_above n [] a = tt
  keys_above n (e ∷ es) a = (ordered n e.0 ∙ a.0, keys_above n es a.1)

  numbers_above : (n : ℕ) (es : List (ℕ × V)) → AllAbove order (map (key_entry key_of) es) (key_of n) → AllAbove nat_cmp es n
  numbers_above n [] a = tt
  numbers_above n (e ∷ es) a = (sym (ordered n e.0) ∙ a.0, numbers_above n es a.1)

  pub keys_rise : (es : List (ℕ × V)) → IsIncreasing nat_cmp es → IsIncreasing order (map (key_entry key_of) es)
  keys_rise [] s = tt
  keys_rise (e ∷ es) s = (keys_above e.0 es s.0, keys_rise es s.1)

  rises : (es : List (ℕ × V)) → IsIncreasing order (map (key_entry key_of) es) → IsIncreasing nat_cmp es
  rises [] s = tt
  rises (e ∷ es) s = (numbers_above e.0 es s.0, rises es s.1)

  pub numbers_rise : (es : List (ℕ × V)) (keyed : List (K × V)) → map (key_entry key_of) es ≡ keyed → IsIncreasing order keyed → IsIncreasing nat_cmp es
  numbers_rise es keyed is s = rises es (subst (IsIncreasing order) (sym is) s)

  -- as many keys are below a key as numbers below its number
  below_same : (n : ℕ) (es : List (ℕ × V)) → length (below order (map (key_entry key_of) es) (key_of n)) ≡ length (below nat_cmp es n)
  below_same n [] = refl
  below_same n (e ∷ es) =
      ap (λ o. length (cond (is_lt o) (key_entry key_of e ∷ below order (map (key_entry key_of) es) (key_of n)) (below order (map (key_entry key_of) es) (key_of n)))) (ordered e.0 n)
      ∙ elim (is_lt (nat_cmp e.0 n)) as (λ b. length (cond b (key_entry key_of e ∷ below order (map (key_entry key_of) es) (key_of n)) (below order (map (key_entry key_of) es) (key_of n))) ≡ length (cond b (e ∷ below nat_cmp es n) (below nat_cmp es n))) [
        | true ↦ ap suc (below_same n es)
        | false ↦ below_same n es
      ]

  -- a key has the value of its number
  lookup_same : (n : ℕ) (es : List (ℕ × V)) → lookup order (map (key_entry key_of) es) (key_of n) ≡ lookup nat_cmp es n
  lookup_same n [] = refl
  lookup_same n (e ∷ es) =
      ap (λ o. cond (is_eq o) (Some e.1) (lookup order (map (key_entry key_of) es) (key_of n))) (ordered e.0 n)
      ∙ ap (cond (is_eq (nat_cmp e.0 n)) (Some e.1)) (lookup_same n es)

  module _ (es : List (ℕ × V)) (keyed : List (K × V)) (is : map (key_entry key_of) es ≡ keyed) (n : ℕ) (k : K) (key : key_of n ≡ k) where
    pub place_is : length (below order keyed k) ≡ length (below nat_cmp es n)
    place_is = ap₂ (λ m k. length (below order m k)) (sym is) (sym key) ∙ below_same n es

    pub value_is : lookup order keyed k ≡ lookup nat_cmp es n
    value_is = ap₂ (lookup order) (sym is) (sym key) ∙ lookup_same n es
