-- The first and the last of some numbers.
use Rattle.std.specs.Prelude.{◌≡◌, ℕ, Option, Some, None, refl}
use Rattle.map_model.specs.Fold.{IsMonoidOver}
use Rattle.aug_monoid.specs.declared.pair64.Pair64.{Pair64}

abbrev pub ends_of : ℕ → Option Pair64
ends_of n = Some (record { first = n; second = n })

-- the first of the front, and the last of the back
abbrev pub ends_combined : Option Pair64 → Option Pair64 → Option Pair64
ends_combined None b = b
ends_combined (Some a) None = Some a
ends_combined (Some a) (Some b) = Some (record { first = a.first; second = b.second })

pub ends_monoid : IsMonoidOver (λ _. Unit {0}) None ends_combined
ends_monoid = record {
  unit_fits = tt;
  combine_fits = λ _ _ _ _. tt;
  left_unit = λ _ _. refl;
  right_unit = λ a _. right a;
  assoc = λ a b c _ _ _. associative a b c;
}
  where
    right : (a : Option Pair64) → ends_combined a None ≡ a
    right None = refl
    right (Some a) = refl

    associative : (a b c : Option Pair64) → ends_combined (ends_combined a b) c ≡ ends_combined a (ends_combined b c)
    associative None b c = refl
    associative (Some a) None c = refl
    associative (Some a) (Some b) None = refl
    associative (Some a) (Some b) (Some c) = refl
