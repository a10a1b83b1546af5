-- The first place at which the sum of a sequence's items passes a test.
use Rattle.std.specs.Prelude.{◌≡◌, ℕ, ◌+◌, ◌<◌, Bool, false, true, List, take, Option, Some, None}
use Rattle.std.specs.Prelude.{nat_le}
use Rattle.std.proofs.Common.{arith}
use Rattle.std.proofs.lemmas.Bool.Decides.{nat_tests}
use Rattle.aug_monoid.specs.Totals.{TotalsFit, totals_combine}
use Rattle.aug_monoid.specs.declared.totals.Totals.{Totals}
use Rattle.seq_core.specs.Sums.{sum_of}

-- over the sums that fit: a sum that passes does so with more behind it too
abbrev pub StaysPassed : {X : Type 0} → (X → Type 0) → (X → X → X) → (X → Bool) → Type 0
StaysPassed {X} Fits combine passes = (a b : X) → Fits a → Fits b → passes a ≡ true → passes (combine a b) ≡ true

-- it is the first of so many places at which something holds, and none where it holds at none of them
abbrev pub IsFirstOf : ℕ → (ℕ → Bool) → Option ℕ → Type 0
IsFirstOf count holds None = (i : ℕ) → i < count → holds i ≡ false
IsFirstOf count holds (Some place) = (place < count) × (holds place ≡ true) × ((i : ℕ) → i < place → holds i ≡ false)

module _ {E X : Type 0} (image : E → X) (unit : X) (combine : X → X → X) (passes : X → Bool) where
  -- the sum of the items up to a place and with it passes
  abbrev pub passes_at : List E → ℕ → Bool
  passes_at items i = passes (sum_of image unit combine (take (i + 1) items))

  -- the same of a sum with these items behind it
  abbrev pub passes_behind : X → List E → ℕ → Bool
  passes_behind before items i = passes (combine before (sum_of image unit combine (take (i + 1) items)))

-- a saturating sum of at least so much stays one
pub sum_stays : (least : ℕ) → StaysPassed TotalsFit totals_combine (λ (totals : Totals). nat_le least totals.sum)
sum_stays least a b f g passed = let fits = f.0 in grind (arith, nat_tests)
