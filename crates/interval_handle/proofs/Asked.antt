-- What is asked of sets of intervals, and what is given.
use Rattle.std.proofs.Common.{◌≡◌, ℕ, suc, ◌^◌, ◌<◌, ◌≤◌, ◌&&◌, ◌↔◌, Bool, true, false, IsTrue, List, [], ◌∷◌, get_or, nat_le, refl, sym, ◌∙◌, arith}
use Rattle.std.proofs.lemmas.Bool.Decides.{nat_tests}
use Rattle.std.specs.List.{AllByRecursion}
use Rattle.interval_map.specs.Intervals.{IsInterval}
use Rattle.interval_handle.specs.Ends.{are_ordered, paired}

-- where no interval has a point, there are none that have it
pub none_has : {X : Type 0} (found : Bool) (is : List X) → IsTrue found ↔ ¬ (is ≡ []) → found ≡ false → is ≡ []
none_has found [] same not_found = refl
none_has found (i ∷ is) same not_found = absurd (unlike (sym not_found ∙ same.1 some))
  where
    some : i ∷ is ≡ [] → ⊥
    some e = cc

    unlike : false ≡ true → ⊥
    unlike e = cc

both_hold : (a b : Bool) → (a && b) ≡ true → (a ≡ true) × (b ≡ true)
both_hold true b h = (refl, h)
both_hold false b h = cc

at_most : (a b : ℕ) → nat_le a b ≡ true → a ≤ b
at_most a b h = grind (arith, nat_tests)

-- pairs of ends in order are intervals
pub all_intervals : (lefts rights : List ℕ) → ((k : ℕ) → get_or rights k 0 < 2 ^ 64) → are_ordered (paired lefts rights) ≡ true → AllByRecursion IsInterval (paired lefts rights)
all_intervals [] rights fits ordered = tt
all_intervals (l ∷ ls) [] fits ordered = tt
all_intervals (l ∷ ls) (r ∷ rs) fits ordered =
    let parts = both_hold (nat_le l r) (are_ordered (paired ls rs)) ordered in
    ((at_most l r parts.0, fits 0), all_intervals ls rs (λ k. fits (suc k)) parts.1)
