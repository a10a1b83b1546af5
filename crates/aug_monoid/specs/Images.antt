-- What the images of augmented values cost.
use Rattle.std.specs.Prelude.{ℕ, ◌+◌, ◌*◌, ◌≤◌, List, length}
use Rattle.map_model.specs.Fold.{fold_of}

module _ {K V X : Type 0} (base : K → V → X) (unit : X) (combine : X → X → X) where
  -- so many steps are enough for the image of the fold of any at most so many entries
  abbrev pub AreImageCosts : (X → ℕ → Type 0) → ℕ → ℕ → Type 0
  AreImageCosts IsCost count most = (part : List (K × V)) → length part ≤ count → IsCost (fold_of base unit combine part) most

-- the most steps of the image of a range's fold, where `most` are enough for one image: the images, and the comparisons of keys
abbrev pub project_cost : ℕ → ℕ → ℕ → ℕ
project_cost block height most = (4 * height + 4 * block + 1) * most + (2 * height + 4 * block)
