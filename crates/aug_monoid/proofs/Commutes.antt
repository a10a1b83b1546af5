-- Sums and greatest numbers are alike in either order, and so are two that are, side by side.
use Rattle.std.specs.Prelude.{◌≡◌, cond, Some, None, refl}
use Rattle.std.specs.Cmp.{IsTotalOrder}
use Rattle.std.specs.Ordering.{is_lt}
use Rattle.std.specs.declared.cmp.Ordering.{Ordering}
use Rattle.std.proofs.Common.{ap, ap₂, arith, sym, ◌∙◌}
use Rattle.map_model.specs.Order.{IsExact}
use Rattle.map_model.proofs.Keys.{by_order, greater, lesser}
use Rattle.aug_monoid.specs.Commuting.{IsCommutativeOver}
use Rattle.aug_monoid.specs.Greatest.{greater_of}
use Rattle.aug_monoid.specs.Later.{later, later_of}
use Rattle.aug_monoid.specs.PairLaws.{PairFits, pair_combine, pair_same}
use Rattle.aug_monoid.specs.Totals.{TotalsFit, totals, totals_combine}

pub totals_commute : IsCommutativeOver TotalsFit totals_combine
totals_commute a b f g = ap₂ totals (omega arith) (omega arith)

pub greater_commutes : IsCommutativeOver (λ _. Unit {0}) greater_of
greater_commutes None None _ _ = refl
greater_commutes None (Some y) _ _ = refl
greater_commutes (Some x) None _ _ = refl
greater_commutes (Some x) (Some y) _ _ = ap (λ n. Some n) (omega arith)

-- the later of two things, of which those that are equal in the order are one
module _ {X : Type 0} {order : X → X → Ordering} (total : IsTotalOrder order) (exact : IsExact order) where
  later_either : (x y : X) → later order x y ≡ later order y x
  later_either x y =
      by_order order x y
      (λ less. ap (λ o. cond (is_lt o) y x) less ∙ sym (ap (λ o. cond (is_lt o) x y) (greater total x y less)))
      (λ equal. ap (λ z. later order z y) (exact x y equal) ∙ ap (λ z. later order y z) (sym (exact x y equal)))
      (λ more. ap (λ o. cond (is_lt o) y x) more ∙ sym (ap (λ o. cond (is_lt o) x y) (lesser total x y more)))

  pub later_commutes : IsCommutativeOver (λ _. Unit {0}) (later_of order)
  later_commutes None None _ _ = refl
  later_commutes None (Some y) _ _ = refl
  later_commutes (Some x) None _ _ = refl
  later_commutes (Some x) (Some y) _ _ = ap (λ p. Some p) (later_either x y)

pub nothing_commutes : IsCommutativeOver {X = Unit {0}} (λ _. Unit {0}) (λ _ _. tt)
nothing_commutes a b f g = refl

pub pair_commutes : {X Y : Type 0} {fits_x : X → Type 0} {fits_y : Y → Type 0} {combine_x : X → X → X} {combine_y : Y → Y → Y} → IsCommutativeOver fits_x combine_x → IsCommutativeOver fits_y combine_y → IsCommutativeOver (PairFits fits_x fits_y) (pair_combine combine_x combine_y)
pair_commutes first second a b f g = pair_same _ _ (first a.0 b.0 f.0 g.0) (second a.1 b.1 f.1 g.1)
