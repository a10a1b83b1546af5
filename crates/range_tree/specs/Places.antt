-- Places: pairs of numbers, ordered by the first and then by the second.
use Rattle.std.specs.Prelude.{ℕ, ◌-◌, ◌^◌, ◌<◌, List}
use Rattle.std.specs.Cmp.{IsTotalOrder, nat_cmp_total}
use Rattle.std.proofs.lemmas.Cmp.{then_total, on_total}
use Rattle.aug_monoid.specs.declared.pair64.Pair64.{Pair64}
use Rattle.aug_monoid.specs.Exact.{pair64_cmp}
use Rattle.map_model.specs.Parts.{slice}

-- from (x, y) to (y, x), and back
abbrev pub swapped : Pair64 → Pair64
swapped place = record { first = place.second; second = place.first }

-- the place at x and y
abbrev pub place : ℕ → ℕ → Pair64
place x y = record { first = x; second = y }

-- both are numbers of 64 bits
abbrev pub IsPlace : Pair64 → Type 0
IsPlace place = (place.first < 2 ^ 64) × (place.second < 2 ^ 64)

-- the ends of the places with a first number
abbrev pub least_at : ℕ → Pair64
least_at first = record { first = first; second = 0 }

abbrev pub greatest_at : ℕ → Pair64
greatest_at first = record { first = first; second = 2 ^ 64 - 1 }

-- the entries whose first numbers lie from lo to hi
abbrev pub lines : ℕ → ℕ → List (Pair64 × ℕ) → List (Pair64 × ℕ)
lines lo hi m = slice pair64_cmp m (least_at lo) (greatest_at hi)

pub pair64_total : IsTotalOrder pair64_cmp
pair64_total = then_total (on_total (λ (p : Pair64). p.first) nat_cmp_total) (on_total (λ (p : Pair64). p.second) nat_cmp_total)
