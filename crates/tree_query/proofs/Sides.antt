-- The sides of a node are shorter than its whole, for recursions down to them.
use Rattle.std.proofs.Common.{◌≡◌, ◌+◌, ◌<◌, List, ◌∷◌, ◌++◌, length, ap, ◌∙◌, arith, length-append}

module _ {E : Type 0} (whole l : List E) (e : E) (r : List E) (is : whole ≡ l ++ e ∷ r) where
  count : length whole ≡ length l + length (e ∷ r)
  count = ap length is ∙ length-append l (e ∷ r)

  pub left_shorter : length l < length whole
  left_shorter = omega (arith, count)

  pub right_shorter : length r < length whole
  right_shorter = omega (arith, count)
