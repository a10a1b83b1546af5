-- Keys that rise do not fall.
use Rattle.std.proofs.Common.{◌≡◌, ℕ, ◌<◌, ◌≤◌, List, [], ◌∷◌, ◌++◌, arith}
use Rattle.std.specs.Ordering.{nat_cmp}
use Rattle.std.specs.declared.cmp.Ordering.TheVariants.{Less}
use Rattle.std.proofs.lemmas.Bool.Decides.{nat_tests}
use Rattle.map_model.specs.Entries.{AllKeys, IsIncreasing}
use Rattle.gap_code.specs.Code.{last_key, NotFalling}

less : (a b : ℕ) → nat_cmp a b ≡ Less → a < b
less a b h = grind (arith, nat_tests)

falling_from : {V : Type 0} (es : List (ℕ × V)) (before : ℕ) → AllKeys (λ k. nat_cmp before k ≡ Less) es → IsIncreasing nat_cmp es → NotFalling before es
falling_from [] before a s = tt
falling_from (e ∷ es) before a s = (omega (arith, less before e.0 a.0), falling_from es e.0 s.0 s.1)

pub falling : {V : Type 0} (es : List (ℕ × V)) → IsIncreasing nat_cmp es → NotFalling 0 es
falling [] s = tt
falling (e ∷ es) s = (omega arith, falling_from es e.0 s.0 s.1)

-- an entry at the end is not below the last before it
pub last_rises : {V : Type 0} (es : List (ℕ × V)) (before : ℕ) (e : ℕ × V) → NotFalling before (es ++ e ∷ []) → last_key before es ≤ e.0
last_rises [] before e n = n.0
last_rises (x ∷ es) before e n = last_rises es x.0 e n.1
