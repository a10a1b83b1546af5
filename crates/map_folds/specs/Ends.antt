-- The first and the last of values that may be absent.
use Rattle.std.specs.Prelude.{◌≡◌, Option, Some, None, refl}
use Rattle.map_model.specs.Fold.{IsMonoidOver}

module _ {X : Type 0} where
  abbrev pub first_of : Option X → Option X → Option X
  first_of None b = b
  first_of (Some x) b = Some x

  abbrev pub last_of : Option X → Option X → Option X
  last_of a None = a
  last_of a (Some y) = Some y

  pub first_monoid : IsMonoidOver (λ _. Unit {0}) None first_of
  first_monoid = record {
    unit_fits = tt;
    combine_fits = λ _ _ _ _. tt;
    left_unit = λ _ _. refl;
    right_unit = λ a _. right a;
    assoc = λ a b c _ _ _. associative a b c;
  }
    where
      right : (a : Option X) → first_of a None ≡ a
      right None = refl
      right (Some x) = refl

      associative : (a b c : Option X) → first_of (first_of a b) c ≡ first_of a (first_of b c)
      associative None b c = refl
      associative (Some x) b c = refl

  pub last_monoid : IsMonoidOver (λ _. Unit {0}) None last_of
  last_monoid = record {
    unit_fits = tt;
    combine_fits = λ _ _ _ _. tt;
    left_unit = λ a _. left a;
    right_unit = λ _ _. refl;
    assoc = λ a b c _ _ _. associative a b c;
  }
    where
      left : (a : Option X) → last_of None a ≡ a
      left None = refl
      left (Some x) = refl

      associative : (a b c : Option X) → last_of (last_of a b) c ≡ last_of a (last_of b c)
      associative a b None = refl
      associative a b (Some z) = refl
