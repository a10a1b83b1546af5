-- A set of intervals is the list of them, by left end and then by right end. An interval has both its ends.
use Rattle.std.specs.Prelude.{ℕ, ◌≤◌, ◌<◌, ◌^◌, ◌&&◌, Bool, not, List, ◌∷◌, ◌++◌, nat_le}
use Rattle.std.specs.List.{AllByRecursion, filter, fold, list_any}
use Rattle.std.specs.List.Sorted.{IsStrictlySortedBy}
use Rattle.std.specs.Ordering.{is_eq, is_ge, is_gt, is_lt, is_ne}
use Rattle.aug_monoid.specs.Exact.{pair64_cmp}
use Rattle.aug_monoid.specs.declared.pair64.Pair64.{Pair64}

-- the interval from a left end to a right end
abbrev pub interval : ℕ → ℕ → Pair64
interval left right = record { first = left; second = right }

-- its left end is at most its right end, and both have 64 bits
abbrev pub IsInterval : Pair64 → Type 0
IsInterval i = (i.first ≤ i.second) × (i.second < 2 ^ 64)

-- intervals that strictly increase
pub record IsIntervals (is : List Pair64) : Type 0 where
  pub increasing : IsStrictlySortedBy pair64_cmp is
  pub ends : AllByRecursion IsInterval is

-- the intervals and this one
abbrev pub with_interval : List Pair64 → Pair64 → List Pair64
with_interval is i = filter (λ j. is_lt (pair64_cmp j i)) is ++ i ∷ filter (λ j. is_gt (pair64_cmp j i)) is

-- the intervals and all of some more
abbrev pub with_intervals : List Pair64 → List Pair64 → List Pair64
with_intervals is more = fold with_interval is more

-- the intervals but this one
abbrev pub without_interval : List Pair64 → Pair64 → List Pair64
without_interval is i = filter (λ j. is_ne (pair64_cmp j i)) is

-- whether an interval is among some
abbrev pub is_among : Pair64 → List Pair64 → Bool
is_among i is = list_any (λ j. is_eq (pair64_cmp j i)) is

-- the intervals that are not among some others
abbrev pub without_intervals : List Pair64 → List Pair64 → List Pair64
without_intervals is others = filter (λ i. not (is_among i others)) is

-- the intervals that are among some others too
abbrev pub common_intervals : List Pair64 → List Pair64 → List Pair64
common_intervals is others = filter (λ i. is_among i others) is

-- the intervals that have p
abbrev pub stab : List Pair64 → ℕ → List Pair64
stab is p = filter (λ i. nat_le i.first p && nat_le p i.second) is

-- the intervals that begin at most at hi and end at least at lo: those that have a number from lo to hi, where lo is at most hi
abbrev pub overlap : List Pair64 → ℕ → ℕ → List Pair64
overlap is lo hi = filter (λ i. nat_le i.first hi && nat_le lo i.second) is

-- the intervals that begin at least at lo and end at most at hi
abbrev pub contained : List Pair64 → ℕ → ℕ → List Pair64
contained is lo hi = filter (λ i. nat_le lo i.first && nat_le i.second hi) is

-- the intervals from a pair of ends on, in their order
abbrev pub intervals_from : List Pair64 → Pair64 → List Pair64
intervals_from is i = filter (λ j. is_ge (pair64_cmp j i)) is
