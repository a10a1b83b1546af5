-- A test of the greatest right end, of ends of any kind.
use Rattle.std.specs.Prelude.{◌≡◌, ◌||◌, Bool, true, false, cond, Option, Some, None, refl}
use Rattle.std.specs.Cmp.{IsTotalOrder}
use Rattle.std.specs.declared.cmp.Ordering.{Ordering}
use Rattle.std.specs.declared.cmp.Ordering.TheVariants.{Less, Equal, Greater}
use Rattle.std.specs.Ordering.{is_gt, is_le, is_lt, ordering_reverse}
use Rattle.std.proofs.Common.{ap, sym, ◌∙◌, true≢false}
use Rattle.std.proofs.lemmas.Cmp.{upto}
use Rattle.aug_monoid.specs.Later.{later_of}
use Rattle.map_model.specs.Fold.{PassesEither}

-- there is a right end, and it is at least lo
abbrev pub end_reaches : {E : Type 0} → (E → E → Ordering) → E → Option E → Bool
end_reaches order lo None = false
end_reaches order lo (Some right) = is_le (order lo right)

module _ {E : Type 0} {order : E → E → Ordering} (total : IsTotalOrder order) where
  not_gt : (o : Ordering) → is_le o ≡ true → is_gt o ≡ false
  not_gt Less h = refl
  not_gt Equal h = refl
  not_gt Greater h = sym h

  le_from : (o : Ordering) → is_gt o ≡ false → is_le o ≡ true
  le_from Less h = refl
  le_from Equal h = refl
  le_from Greater h = sym h

  pub le_trans : (a b c : E) → is_le (order a b) ≡ true → is_le (order b c) ≡ true → is_le (order a c) ≡ true
  le_trans a b c p q = le_from (order a c) (upto total a b c (not_gt (order a b) p) (not_gt (order b c) q))

  -- what is less is at most, and what is not less is at least
  pub le_less : (a b : E) → is_lt (order a b) ≡ true → is_le (order a b) ≡ true
  le_less a b = elim (order a b) as (λ o. is_lt o ≡ true → is_le o ≡ true) [ Less ↦ λ _. refl | Equal ↦ λ _. refl | Greater ↦ λ h. h ]

  pub le_back : (a b : E) → is_lt (order a b) ≡ false → is_le (order b a) ≡ true
  le_back a b h =
      ap is_le (total.antisymm b a)
      ∙ elim (order a b) as (λ o. is_lt o ≡ false → is_le (ordering_reverse o) ≡ true) [ Less ↦ λ e. sym e | Equal ↦ λ _. refl | Greater ↦ λ _. refl ] h

  second_alone : (p q : Bool) → (p ≡ true → q ≡ true) → q ≡ (p || q)
  second_alone true q f = f refl
  second_alone false q f = refl

  first_alone : (p q : Bool) → (q ≡ true → p ≡ true) → p ≡ (p || q)
  first_alone true q f = refl
  first_alone false true f = f refl
  first_alone false false f = refl

  -- the later of two right ends is at least lo where one of the two is
  pub later_reaches : (lo : E) → PassesEither (λ _. Unit {0}) (later_of order) (end_reaches order lo)
  later_reaches lo None b f g = refl
  later_reaches lo (Some x) None f g = first_alone (is_le (order lo x)) false (λ e. absurd (true≢false (sym e)))
  later_reaches lo (Some x) (Some y) f g =
      elim (is_lt (order x y)) as (λ b. is_lt (order x y) ≡ b → is_le (order lo (cond b y x)) ≡ (is_le (order lo x) || is_le (order lo y))) [
        | true ↦ λ less. second_alone (is_le (order lo x)) (is_le (order lo y)) (λ h. le_trans lo x y h (le_less x y less))
        | false ↦ λ no. first_alone (is_le (order lo x)) (is_le (order lo y)) (λ h. le_trans lo y x h (le_back x y no))
      ] refl
