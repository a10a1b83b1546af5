-- The later of two things in an order, and the first of two that are equal there.
use Rattle.std.specs.Prelude.{◌≡◌, true, false, cond, Option, Some, None, refl}
use Rattle.std.specs.declared.cmp.Ordering.{Ordering}
use Rattle.std.specs.declared.cmp.Ordering.TheVariants.{Less, Equal, Greater}
use Rattle.std.specs.Ordering.{is_lt}
use Rattle.std.specs.Cmp.{IsTotalOrder}
use Rattle.std.proofs.Common.{ap, sym, ◌∙◌, true≢false}
use Rattle.map_model.specs.Fold.{IsMonoidOver}
use Rattle.map_model.proofs.Keys.{by_order, greater, lesser}

module _ {X : Type 0} (order : X → X → Ordering) where
  abbrev pub later : X → X → X
  later a b = cond (is_lt (order a b)) b a

  -- the same where each may be absent
  abbrev pub later_of : Option X → Option X → Option X
  later_of None b = b
  later_of (Some x) None = Some x
  later_of (Some x) (Some y) = Some (later x y)

module _ {X : Type 0} {order : X → X → Ordering} (total : IsTotalOrder order) where
  -- where c is no later than b, and b no later than a, c is no later than a
  first_stays : (a b c : X) → is_lt (order a b) ≡ false → is_lt (order b c) ≡ false → is_lt (order a c) ≡ false
  first_stays a b c no_later no_later_still =
      by_order order a b
      (λ less. absurd (true≢false (sym (ap is_lt less) ∙ no_later)))
      (λ equal. ap is_lt (total.congr a b c equal) ∙ no_later_still)
      (λ more.
      by_order order b c
      (λ less. absurd (true≢false (sym (ap is_lt less) ∙ no_later_still)))
      (λ equal. ap is_lt (greater total c a (sym (total.congr b c a equal) ∙ lesser total a b more)))
      (λ still. ap is_lt (greater total c a (total.trans c b a (lesser total b c still) (lesser total a b more)))))

  later_assoc : (a b c : X) → later order (later order a b) c ≡ later order a (later order b c)
  later_assoc a b c =
      elim (is_lt (order a b)) as (λ s. is_lt (order a b) ≡ s → later order (cond s b a) c ≡ later order a (later order b c)) [
        | true ↦ λ ab. elim (is_lt (order b c)) as (λ t. is_lt (order b c) ≡ t → cond t c b ≡ later order a (cond t c b)) [
          | true ↦ λ bc. sym (ap (λ s. cond s c a) (both a b c ab bc))
          | false ↦ λ bc. sym (ap (λ s. cond s b a) ab)
        ] refl
        | false ↦ λ ab. elim (is_lt (order b c)) as (λ t. is_lt (order b c) ≡ t → later order a c ≡ later order a (cond t c b)) [
          | true ↦ λ bc. refl
          | false ↦ λ bc. ap (λ s. cond s c a) (first_stays a b c ab bc) ∙ sym (ap (λ s. cond s b a) ab)
        ] refl
      ] refl
    where
      less_from : (o : Ordering) → is_lt o ≡ true → o ≡ Less
      less_from Less e = refl
      less_from Equal e = absurd (true≢false (sym e))
      less_from Greater e = absurd (true≢false (sym e))

      both : (a b c : X) → is_lt (order a b) ≡ true → is_lt (order b c) ≡ true → is_lt (order a c) ≡ true
      both a b c ab bc = ap is_lt (total.trans a b c (less_from (order a b) ab) (less_from (order b c) bc))

  pub later_monoid : IsMonoidOver (λ _. Unit {0}) None (later_of order)
  later_monoid = record {
    unit_fits = tt;
    combine_fits = λ _ _ _ _. tt;
    left_unit = λ _ _. refl;
    right_unit = λ a _. right a;
    assoc = λ a b c _ _ _. associative a b c;
  }
    where
      right : (a : Option X) → later_of order a None ≡ a
      right None = refl
      right (Some x) = refl

      associative : (a b c : Option X) → later_of order (later_of order a b) c ≡ later_of order a (later_of order b c)
      associative None b c = refl
      associative (Some x) None c = refl
      associative (Some x) (Some y) None = refl
      associative (Some x) (Some y) (Some z) = ap (λ p. Some p) (later_assoc x y z)
