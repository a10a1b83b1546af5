-- The parts of the line that intervals cover.
use Rattle.std.specs.Prelude.{◌≡◌, ℕ, ◌*◌, ◌<◌, ◌&&◌, Bool, List, [], ◌∷◌, nat_le, ⊤}
use Rattle.std.specs.List.{AllByRecursion, list_any}
use Rattle.aug_monoid.specs.declared.pair64.Pair64.{Pair64}
use Rattle.interval_map.specs.Intervals.{IsInterval}

-- whether one of some intervals has a point. A point is given by its double, so that it may stand halfway between two numbers
abbrev pub has_point : List Pair64 → ℕ → Bool
has_point is double = list_any (λ i. nat_le (2 * i.first) double && nat_le double (2 * i.second)) is

-- each interval ends before all later ones begin
abbrev pub AreApart : List Pair64 → Type 0
AreApart [] = ⊤
AreApart (i ∷ is) = AllByRecursion (λ j. i.second < j.first) is × AreApart is

-- the intervals that have the same points as some others and are apart. Of the others those that share a point are joined, and those
-- that only touch, as [1, 2] and [3, 4], are not, for none has the point between
pub record IsMerged (is merged : List Pair64) : Type 0 where
  pub ends : AllByRecursion IsInterval merged
  pub apart : AreApart merged
  pub points : (double : ℕ) → has_point merged double ≡ has_point is double
