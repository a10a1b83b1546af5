-- A test of the greatest right end.
use Rattle.std.specs.Prelude.{◌≡◌, ℕ, ◌||◌, Bool, false, max, nat_le, Option, Some, None, refl}
use Rattle.std.proofs.Common.{arith}
use Rattle.aug_monoid.specs.Greatest.{greater_of}
use Rattle.map_model.specs.Fold.{PassesEither}

-- there is a right end, and it is at least p
abbrev pub reaches : ℕ → Option ℕ → Bool
reaches p None = false
reaches p (Some right) = nat_le p right

-- a maximum is at least a number where one of the two is
pub reaches_max : (p a b : ℕ) → nat_le p (max a b) ≡ (nat_le p a || nat_le p b)
reaches_max p a b = grind arith

-- the greater of two right ends is at least p where one of the two is
pub reaches_either : (p : ℕ) → PassesEither (λ _. Unit {0}) greater_of (reaches p)
reaches_either p None b f g = refl
reaches_either p (Some x) None f g = left (nat_le p x)
  where
    left : (b : Bool) → b ≡ (b || false)
    left b = grind arith
reaches_either p (Some x) (Some y) f g = reaches_max p x y
