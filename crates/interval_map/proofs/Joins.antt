-- Intervals that are joined where they share a point.
use Rattle.std.proofs.Common.{◌≡◌, ◌++◌, append_assoc, ℕ, ◌*◌, ◌<◌, ◌≤◌, ◌&&◌, ◌||◌, Bool, true, false, cond, List, [], ◌∷◌, max, nat_le, refl, ap, ◌∙◌, subst, sym, arith}
use Rattle.std.proofs.lemmas.Bool.Decides.{nat_tests}
use Rattle.std.specs.Prelude.{⊤}
use Rattle.std.specs.List.{AllByRecursion}
use Rattle.std.specs.Map.{keys_of}
use Rattle.std.specs.declared.cmp.Ordering.TheVariants.{Less}
use Rattle.aug_monoid.specs.declared.pair64.Pair64.{Pair64}
use Rattle.aug_monoid.specs.Exact.{pair64_cmp}
use Rattle.map_model.specs.Entries.{AllAbove, IsIncreasing}
use Rattle.interval_map.specs.Intervals.{IsInterval, interval}
use Rattle.interval_map.specs.Merged.{AreApart, IsMerged, has_point}

-- ---- the joined intervals

-- intervals from one on, each joined to what stands before it where it begins in that
abbrev pub joined : Pair64 → List Pair64 → List Pair64
joined last [] = last ∷ []
joined last (i ∷ is) = cond (nat_le i.first last.second) (joined (interval last.first (max last.second i.second)) is) (last ∷ joined i is)

abbrev pub all_joined : List Pair64 → List Pair64
all_joined [] = []
all_joined (i ∷ is) = joined i is

-- ---- where intervals begin

abbrev BeginFrom : ℕ → List Pair64 → Type 0
BeginFrom first is = AllByRecursion (λ i. first ≤ i.first) is

-- none begins before an earlier one
abbrev pub Rise : List Pair64 → Type 0
Rise [] = ⊤
Rise (i ∷ is) = BeginFrom i.first is × Rise is

begins_no_later : (i j : Pair64) → pair64_cmp i j ≡ Less → i.first ≤ j.first
begins_no_later i j less = grind (arith, nat_tests)

begin_from : {V : Type 0} (i : Pair64) (m : List (Pair64 × V)) → AllAbove pair64_cmp m i → BeginFrom i.first (keys_of m)
begin_from i [] above = tt
begin_from i (e ∷ m) above = (begins_no_later i e.0 above.0, begin_from i m above.1)

rise_of : {V : Type 0} (m : List (Pair64 × V)) → IsIncreasing pair64_cmp m → Rise (keys_of m)
rise_of [] s = tt
rise_of (e ∷ m) s = (begin_from e.0 m s.0, rise_of m s.1)

later_from : (low first : ℕ) (is : List Pair64) → low < first → BeginFrom first is → AllByRecursion (λ i. low < i.first) is
later_from low first [] less from = tt
later_from low first (i ∷ is) less from = (omega (arith, less, from.0), later_from low first is less from.1)

begin_behind : (low : ℕ) (last : Pair64) (is : List Pair64) → low < last.first → AllByRecursion (λ i. low < i.first) is → AllByRecursion (λ i. low < i.first) (joined last is)
begin_behind low last [] less later = (less, tt)
begin_behind low last (i ∷ is) less later =
    let on = interval last.first (max last.second i.second) in
    elim (nat_le i.first last.second) as (λ b. AllByRecursion (λ j. low < j.first) (cond b (joined on is) (last ∷ joined i is))) [
      | true ↦ begin_behind low on is less later.1
      | false ↦ (less, begin_behind low i is later.0 later.1)
    ]

-- ---- what holds of them

begins_behind : (last i : Pair64) → nat_le i.first last.second ≡ false → last.second < i.first
begins_behind last i far = grind (arith, nat_tests)

apart : (last : Pair64) (is : List Pair64) → Rise is → AreApart (joined last is)
apart last [] rise = (tt, tt)
apart last (i ∷ is) rise =
    let on = interval last.first (max last.second i.second) in
    elim (nat_le i.first last.second) as (λ b. nat_le i.first last.second ≡ b → AreApart (cond b (joined on is) (last ∷ joined i is))) [
      | true ↦ λ _. apart on is rise.1
      | false ↦ λ far.
          let behind = begins_behind last i far in
          (begin_behind last.second i is behind (later_from last.second i.first is behind rise.0), apart i is rise.1)
    ] refl

joined_ends : (a b : Pair64) → IsInterval a → IsInterval b → IsInterval (interval a.first (max a.second b.second))
joined_ends a b first second = (omega (arith, max, first.0), omega (arith, max, first.1, second.1))

ends : (last : Pair64) (is : List Pair64) → IsInterval last → AllByRecursion IsInterval is → AllByRecursion IsInterval (joined last is)
ends last [] one all = (one, tt)
ends last (i ∷ is) one all =
    let on = interval last.first (max last.second i.second) in
    elim (nat_le i.first last.second) as (λ b. AllByRecursion IsInterval (cond b (joined on is) (last ∷ joined i is))) [
      | true ↦ ends on is (joined_ends last i one all.0) all.1
      | false ↦ (one, ends i is all.0 all.1)
    ]

-- two intervals of which the second begins in the first have the points of one
joined_points : (a b : Pair64) (double : ℕ) (rest : Bool) → a.first ≤ b.first → nat_le b.first a.second ≡ true
    → ((nat_le (2 * a.first) double && nat_le double (2 * max a.second b.second)) || rest)
    ≡ ((nat_le (2 * a.first) double && nat_le double (2 * a.second)) || ((nat_le (2 * b.first) double && nat_le double (2 * b.second)) || rest))
joined_points a b double rest rise near = grind (arith, nat_tests)

points : (last : Pair64) (is : List Pair64) (double : ℕ) → Rise (last ∷ is) → has_point (joined last is) double ≡ has_point (last ∷ is) double
points last [] double rise = refl
points last (i ∷ is) double rise =
    let on = interval last.first (max last.second i.second) in
    elim (nat_le i.first last.second) as (λ b. nat_le i.first last.second ≡ b → has_point (cond b (joined on is) (last ∷ joined i is)) double ≡ has_point (last ∷ i ∷ is) double) [
      | true ↦ λ near. points on is double (rise.0.1, rise.1.1) ∙ joined_points last i double (has_point is double) rise.0.0 near
      | false ↦ λ _. ap (λ b. (nat_le (2 * last.first) double && nat_le double (2 * last.second)) || b) (points i is double rise.1)
    ] refl

are_merged : (is : List Pair64) → Rise is → AllByRecursion IsInterval is → IsMerged is (all_joined is)
are_merged [] rise all = record { ends = tt; apart = tt; points = λ _. refl }
are_merged (i ∷ is) rise all = record { ends = ends i is all.0 all.1; apart = apart i is rise.1; points = λ double. points i is double rise }

-- the intervals of a map
pub merged : {V : Type 0} (m : List (Pair64 × V)) (set answer : List Pair64) → IsIncreasing pair64_cmp m → AllByRecursion IsInterval (keys_of m) → keys_of m ≡ set → all_joined set ≡ answer → IsMerged set answer
merged m set answer increasing all seen is =
    subst (λ (js : List Pair64). IsMerged set js) is
    (subst (λ (ks : List Pair64). IsMerged ks (all_joined ks)) seen (are_merged (keys_of m) (rise_of m increasing) all))

-- ---- one interval more

far_test : (first second : ℕ) → second < first → nat_le first second ≡ false
far_test first second less = grind (arith, nat_tests)

-- the last is done where the next begins behind it
pub one_done : (done : List Pair64) (last next : Pair64) (rest : List Pair64) → last.second < next.first → done ++ joined last (next ∷ rest) ≡ (done ++ last ∷ []) ++ joined next rest
one_done done last next rest less =
    ap (λ b. done ++ cond b (joined (interval last.first (max last.second next.second)) rest) (last ∷ joined next rest)) (far_test next.first last.second less)
    ∙ sym (append_assoc done (last ∷ []) (joined next rest))
