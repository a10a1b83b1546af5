-- Whether one of two is true, and whether both are.
use Rattle.std.specs.Prelude.{◌≡◌, Bool, true, false, ◌&&◌, ◌||◌, refl}
use Rattle.map_model.specs.Fold.{IsMonoidOver}

pub any_monoid : IsMonoidOver {X = Bool} (λ _. Unit {0}) false (λ a b. a || b)
any_monoid = record {
  unit_fits = tt;
  combine_fits = λ _ _ _ _. tt;
  left_unit = λ _ _. refl;
  right_unit = λ a _. right a;
  assoc = λ a b c _ _ _. associative a b c;
}
  where
    right : (a : Bool) → (a || false) ≡ a
    right true = refl
    right false = refl

    associative : (a b c : Bool) → ((a || b) || c) ≡ (a || (b || c))
    associative true b c = refl
    associative false b c = refl

pub all_monoid : IsMonoidOver {X = Bool} (λ _. Unit {0}) true (λ a b. a && b)
all_monoid = record {
  unit_fits = tt;
  combine_fits = λ _ _ _ _. tt;
  left_unit = λ _ _. refl;
  right_unit = λ a _. right a;
  assoc = λ a b c _ _ _. associative a b c;
}
  where
    right : (a : Bool) → (a && true) ≡ a
    right true = refl
    right false = refl

    associative : (a b c : Bool) → ((a && b) && c) ≡ (a && (b && c))
    associative true b c = refl
    associative false b c = refl
