-- A map from intervals to values is the list of its entries, by left end and then by right end. An interval has both its ends.
use Rattle.std.specs.Prelude.{◌&&◌, IsTrue, List}
use Rattle.std.specs.List.{filter}
use Rattle.std.specs.declared.cmp.Ordering.{Ordering}
use Rattle.std.specs.Ordering.{is_le}
use Rattle.aug_monoid.specs.Spans.{span_cmp}
use Rattle.aug_monoid.specs.declared.span.Span.{Span}
use Rattle.map_model.specs.Entries.{AllKeys, IsIncreasing}

module _ {E : Type 0} (order : E → E → Ordering) where
  -- the left end is at most the right end
  abbrev pub IsInterval : Span E → Type 0
  IsInterval i = IsTrue (is_le (order i.left i.right))

module _ {E V : Type 0} (order : E → E → Ordering) where
  -- each key is an interval
  abbrev pub AreIntervals : List (Span E × V) → Type 0
  AreIntervals m = AllKeys (IsInterval order) m

  -- intervals that strictly increase
  pub record IsIntervalMap (m : List (Span E × V)) : Type 0 where
    pub increasing : IsIncreasing (span_cmp order) m
    pub ends : AreIntervals m

  -- the entries of the intervals that begin at most at hi
  abbrev pub begun : List (Span E × V) → E → List (Span E × V)
  begun m hi = filter (λ e. is_le (order e.0.left hi)) m

  -- the entries of the intervals that have p
  abbrev pub stab : List (Span E × V) → E → List (Span E × V)
  stab m p = filter (λ e. is_le (order e.0.left p) && is_le (order p e.0.right)) m

  -- the entries of the intervals that begin at most at hi and end at least at lo: those that have a point from lo to hi, where lo is at
  -- most hi
  abbrev pub overlapping : List (Span E × V) → E → E → List (Span E × V)
  overlapping m lo hi = filter (λ e. is_le (order e.0.left hi) && is_le (order lo e.0.right)) m

  -- the entries of the intervals that begin at least at lo and end at most at hi
  abbrev pub contained : List (Span E × V) → E → E → List (Span E × V)
  contained m lo hi = filter (λ e. is_le (order lo e.0.left) && is_le (order e.0.right hi)) m
