-- What images cost in a part of a tree, from what they cost in the whole.
use Rattle.std.proofs.Common.{ℕ, ◌≤◌, [], ◌∷◌, subst, arith}
use Rattle.map_model.specs.Fold.{IsMonoidOver}
use Rattle.map_model.proofs.Folds.{fold-one}
use Rattle.aug_monoid.specs.Images.{AreImageCosts}

module _ {K V X : Type 0} (base : K → V → X) (unit : X) (combine : X → X → X) (IsCost : X → ℕ → Type 0) (count most : ℕ) (costs : AreImageCosts base unit combine IsCost count most) where
  -- of fewer entries
  pub costs_of_fewer : (fewer : ℕ) → fewer ≤ count → AreImageCosts base unit combine IsCost fewer most
  costs_of_fewer fewer less = λ part short. costs part (omega (arith, short, less))

  -- of none
  pub cost_of_none : IsCost unit most
  cost_of_none = costs [] (omega arith)

  -- of one
  pub cost_of_one : {Fits : X → Type 0} → IsMonoidOver Fits unit combine → ((k : K) (v : V) → Fits (base k v)) → (k : K) (v : V) → 1 ≤ count → IsCost (base k v) most
  cost_of_one monoid base_fits k v some = subst (λ x. IsCost x most) (fold-one monoid base_fits k v) (costs ((k, v) ∷ []) some)
