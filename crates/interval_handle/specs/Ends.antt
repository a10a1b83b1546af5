-- Intervals as two arrays, of their left and of their right ends.
use Rattle.std.specs.Prelude.{ℕ, Bool, List, map, nat_le}
use Rattle.std.specs.List.{list_all, zip}
use Rattle.interval_map.specs.Intervals.{interval}
use Rattle.aug_monoid.specs.declared.pair64.Pair64.{Pair64}

-- the left ends, and the right ends
abbrev pub lefts_of : List Pair64 → List ℕ
lefts_of is = map (λ i. i.first) is

abbrev pub rights_of : List Pair64 → List ℕ
rights_of is = map (λ i. i.second) is

-- the interval of each left end and the right end at its place
abbrev pub paired : List ℕ → List ℕ → List Pair64
paired lefts rights = map (λ e. interval e.0 e.1) (zip lefts rights)

-- no left end is greater than its right end
abbrev pub are_ordered : List Pair64 → Bool
are_ordered is = list_all (λ i. nat_le i.first i.second) is
