-- Folds that are alike in either order.
use Rattle.std.specs.Prelude.{◌≡◌, Bool, true, false, ◌&&◌, ◌||◌, Option, Some, None, refl}
use Rattle.std.proofs.Common.{ap, ap₂, arith}
use Rattle.std.proofs.Math.IntN.{+ℤ_comm}
use Rattle.aug_monoid.specs.Commuting.{IsCommutativeOver}
use Rattle.aug_monoid.specs.Totals.{totals}
use Rattle.map_folds.specs.Means.{MeansFit, means, means_combine}
use Rattle.map_folds.specs.Sums.{FitsI128, SumWithin64, Within64, capped_sum, checked_sum, in_128, signed_sum, within64}
use Rattle.map_folds.specs.Summaries.{SummaryFits, summary, summary_combine}
use Rattle.map_folds.specs.Triples.{TripleFits, triple_combine}

pub capped_commutes : IsCommutativeOver Within64 capped_sum
capped_commutes a b f g = omega arith

pub checked_commutes : IsCommutativeOver SumWithin64 checked_sum
checked_commutes None None f g = refl
checked_commutes None (Some y) f g = refl
checked_commutes (Some x) None f g = refl
checked_commutes (Some x) (Some y) f g = ap within64 (omega arith)

pub signed_commutes : IsCommutativeOver FitsI128 signed_sum
signed_commutes a b f g = ap in_128 (+ℤ_comm a b)

pub means_commute : IsCommutativeOver MeansFit means_combine
means_commute a b f g = ap₂ means (omega arith) (omega arith)

pub summaries_commute : IsCommutativeOver SummaryFits summary_combine
summaries_commute a b f g = ap₂ summary (ap₂ totals (omega arith) (omega arith)) (omega arith)

pub any_commutes : IsCommutativeOver {X = Bool} (λ _. Unit {0}) (λ a b. a || b)
any_commutes true true _ _ = refl
any_commutes true false _ _ = refl
any_commutes false true _ _ = refl
any_commutes false false _ _ = refl

pub all_commutes : IsCommutativeOver {X = Bool} (λ _. Unit {0}) (λ a b. a && b)
all_commutes true true _ _ = refl
all_commutes true false _ _ = refl
all_commutes false true _ _ = refl
all_commutes false false _ _ = refl

pub triple_commutes : {X Y Z : Type 0} {fits_x : X → Type 0} {fits_y : Y → Type 0} {fits_z : Z → Type 0} {combine_x : X → X → X} {combine_y : Y → Y → Y} {combine_z : Z → Z → Z}
    → IsCommutativeOver fits_x combine_x → IsCommutativeOver fits_y combine_y → IsCommutativeOver fits_z combine_z → IsCommutativeOver (TripleFits fits_x fits_y fits_z) (triple_combine combine_x combine_y combine_z)
triple_commutes first second third a b f g = λ i. (first a.0 b.0 f.0 g.0 i, second a.1 b.1 f.1 g.1 i, third a.2 b.2 f.2 g.2 i)
