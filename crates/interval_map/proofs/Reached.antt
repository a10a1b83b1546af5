-- Intervals with ends of any kind, by where they begin and end.
use Rattle.std.proofs.Common.{◌≡◌, ◌↔◌, ◌&&◌, ◌||◌, IsTrue, Bool, true, false, cond, not, List, [], ◌∷◌, Option, None, Some, refl, ap, subst, sym, ◌∙◌, true≢false}
use Rattle.std.proofs.lemmas.Cmp.{on_total, then_total, tied_itself}
use Rattle.std.specs.BTreeMap.Range.{entries_between}
use Rattle.std.specs.Cmp.{IsTotalOrder}
use Rattle.std.specs.declared.cmp.Ordering.{Ordering}
use Rattle.std.specs.declared.cmp.Ordering.TheVariants.{Less, Equal, Greater}
use Rattle.std.specs.declared.ops.Bound.TheVariants.{Included}
use Rattle.std.specs.List.{filter, slice_get}
use Rattle.std.specs.Ordering.{is_ge, is_le, is_lt, ordering_reverse, ordering_then}
use Rattle.aug_monoid.specs.Later.{later_of}
use Rattle.aug_monoid.specs.Spans.{span, span_cmp}
use Rattle.aug_monoid.specs.declared.span.Span.{Span}
use Rattle.map_model.specs.Entries.{AllAbove, AllKeys, IsIncreasing}
use Rattle.map_model.specs.Fold.{aug_filter, fold_of}
use Rattle.map_model.specs.Parts.{left_of, slice}
use Rattle.map_model.proofs.Filters.{filter-filter, filter-no_keys, filter-same_keys}
use Rattle.map_model.proofs.Keys.{AllKeys-map, greater}
use Rattle.interval_map.specs.IntervalMaps.{IsInterval, AreIntervals, begun, contained, overlapping}
use Rattle.interval_map.specs.RightEnds.{end_reaches, later_reaches, le_back, le_less, le_trans}
use Rattle.interval_map.proofs.Found.{some_of, some_of_is}

module _ {E : Type 0} {order : E → E → Ordering} (total : IsTotalOrder order) where
  pub ends_total : IsTotalOrder (span_cmp order)
  ends_total = then_total (on_total (λ (i : Span E). i.left) total) (on_total (λ (i : Span E). i.right) total)

  le_itself : (a : E) → is_le (order a a) ≡ true
  le_itself a = ap is_le (tied_itself total a)

  -- an interval that ends at most at g is at most the one from hi to g where it begins at most at hi
  begins_by : (hi g : E) (i : Span E) → is_le (order i.right g) ≡ true → is_le (span_cmp order i (span hi g)) ≡ is_le (order i.left hi)
  begins_by hi g i h = elim (order i.left hi) as (λ o. is_le (ordering_then o (order i.right g)) ≡ is_le o) [ Less ↦ refl | Equal ↦ h | Greater ↦ refl ]

  -- an interval is at least the one from lo to lo where it begins at least at lo
  begins_from : (lo : E) (i : Span E) → IsInterval order i → is_le (span_cmp order (span lo lo) i) ≡ is_le (order lo i.left)
  begins_from lo i ends =
      elim (order lo i.left) as (λ o. order lo i.left ≡ o → is_le (ordering_then o (order lo i.right)) ≡ is_le o) [
        | Less ↦ λ _. refl
        | Equal ↦ λ is. le_trans total lo i.left i.right (ap is_le is) ends
        | Greater ↦ λ _. refl
      ] refl

  -- an interval that ends at most at hi is not behind the one from hi to hi
  ends_by : (hi : E) (i : Span E) → IsInterval order i → is_le (order i.right hi) ≡ true → is_lt (span_cmp order (span hi hi) i) ≡ false
  ends_by hi i ends h =
      ends_no_later (order hi i.left) (order hi i.right) (no_less i.left (le_trans total i.left i.right hi ends h)) (no_less i.right h)
    where
      turned : (o : Ordering) → is_le o ≡ true → is_lt (ordering_reverse o) ≡ false
      turned Less e = refl
      turned Equal e = refl
      turned Greater e = sym e

      no_less : (a : E) → is_le (order a hi) ≡ true → is_lt (order hi a) ≡ false
      no_less a e = ap is_lt (total.antisymm hi a) ∙ turned (order a hi) e

      ends_no_later : (o p : Ordering) → is_lt o ≡ false → is_lt p ≡ false → is_lt (ordering_then o p) ≡ false
      ends_no_later Less p e f = e
      ends_no_later Equal p e f = f
      ends_no_later Greater p e f = refl

  -- an interval is between those from lo to lo and from hi to hi, and ends at most at hi, where it begins at least at lo and ends at
  -- most at hi
  begins_within : (lo hi : E) (i : Span E) → IsInterval order i
      → ((is_le (span_cmp order (span lo lo) i) && not (is_lt (span_cmp order (span hi hi) i))) && is_le (order i.right hi)) ≡ (is_le (order lo i.left) && is_le (order i.right hi))
  begins_within lo hi i ends =
      ap (λ b. (b && not (is_lt (span_cmp order (span hi hi) i))) && is_le (order i.right hi)) (begins_from lo i ends)
      ∙ alone (is_le (order lo i.left)) (is_lt (span_cmp order (span hi hi) i)) (is_le (order i.right hi)) (ends_by hi i ends)
    where
      alone : (b s t : Bool) → (t ≡ true → s ≡ false) → ((b && not s) && t) ≡ (b && t)
      alone false s t f = refl
      alone true false t f = refl
      alone true true false f = refl
      alone true true true f = sym (f refl)

  -- of two intervals the lesser begins no later
  begins_no_later : (i j : Span E) → span_cmp order i j ≡ Less → is_le (order i.left j.left) ≡ true
  begins_no_later i j less = at_most (order i.left j.left) (order i.right j.right) less
    where
      at_most : (o p : Ordering) → ordering_then o p ≡ Less → is_le o ≡ true
      at_most Less p h = refl
      at_most Equal p h = refl
      at_most Greater p h = ap is_le h

  module _ {V : Type 0} where
    -- the greatest right end
    abbrev pub last_end : List (Span E × V) → Option E
    last_end m = fold_of (λ key _. Some key.right) None (later_of order) m

    -- no interval ends behind it; where there is none, there is no interval
    abbrev EndBy : Option E → List (Span E × V) → Type 0
    EndBy None m = m ≡ []
    EndBy (Some g) m = AllKeys (λ i. is_le (order i.right g) ≡ true) m

    end_more : (last : Option E) (e : Span E × V) (m : List (Span E × V)) → EndBy last m → EndBy (later_of order (Some e.0.right) last) (e ∷ m)
    end_more None e m none = (le_itself e.0.right, subst (λ (n : List (Span E × V)). AllKeys (λ i. is_le (order i.right e.0.right) ≡ true) n) (sym none) tt)
    end_more (Some g) e m all =
        elim (is_lt (order e.0.right g)) as (λ b. is_lt (order e.0.right g) ≡ b → EndBy (Some (cond b g e.0.right)) (e ∷ m)) [
          | true ↦ λ less. (le_less total e.0.right g less, all)
          | false ↦ λ no. (le_itself e.0.right, AllKeys-map (λ i. is_le (order i.right g) ≡ true) (λ i. is_le (order i.right e.0.right) ≡ true) (λ i h. le_trans total i.right g e.0.right h (le_back total e.0.right g no)) m all)
        ] refl

    ended : (m : List (Span E × V)) → EndBy (last_end m) m
    ended [] = refl
    ended (e ∷ m) = end_more (last_end m) e m (ended m)

    pub no_last : (m : List (Span E × V)) → last_end m ≡ None → m ≡ []
    no_last m none = subst (λ (last : Option E). EndBy last m) none (ended m)

    -- the intervals that begin at most at hi are those up to the one from hi to the greatest right end
    pub left_of_last : (m : List (Span E × V)) (hi g : E) → last_end m ≡ Some g → left_of (span_cmp order) m (span hi g) ≡ begun order m hi
    left_of_last m hi g some =
        let all = subst (λ (last : Option E). EndBy last m) some (ended m) in
        filter-same_keys (λ i. is_le (span_cmp order i (span hi g))) (λ i. is_le (order i.left hi)) m (AllKeys-map (λ i. is_le (order i.right g) ≡ true) (λ i. is_le (span_cmp order i (span hi g)) ≡ is_le (order i.left hi)) (begins_by hi g) m all)

    -- of these the ones that end at least at lo
    pub reach-begun : (m : List (Span E × V)) (lo hi : E) → aug_filter (λ key _. Some key.right) (end_reaches order lo) (begun order m hi) ≡ overlapping order m lo hi
    reach-begun m lo hi = filter-filter (λ e. is_le (order e.0.left hi)) (λ e. is_le (order lo e.0.right)) m

    -- the greatest right end is at least lo where an interval ends at least at lo
    pub reach_some : (lo : E) (m : List (Span E × V)) → end_reaches order lo (last_end m) ≡ some_of (aug_filter (λ key _. Some key.right) (end_reaches order lo) m)
    reach_some lo [] = refl
    reach_some lo (e ∷ m) =
        later_reaches total lo (Some e.0.right) (last_end m) tt tt
        ∙ elim (is_le (order lo e.0.right)) as (λ b. (b || end_reaches order lo (last_end m)) ≡ some_of (cond b (e ∷ aug_filter (λ key _. Some key.right) (end_reaches order lo) m) (aug_filter (λ key _. Some key.right) (end_reaches order lo) m))) [
          | true ↦ refl
          | false ↦ reach_some lo m
        ]

    -- whether the greatest right end of the intervals that begin at most at hi is at least lo
    pub covers_hits : (m part : List (Span E × V)) (lo hi : E) (answer : Bool) → part ≡ begun order m hi → answer ≡ end_reaches order lo (last_end part) → IsTrue answer ↔ ¬ (overlapping order m lo hi ≡ [])
    covers_hits m part lo hi answer is reached =
        let same : answer ≡ some_of (overlapping order m lo hi) = reached ∙ ap (λ p. end_reaches order lo (last_end p)) is ∙ reach_some lo (begun order m hi) ∙ ap some_of (reach-begun m lo hi) in
        subst (λ (b : Bool). IsTrue b ↔ ¬ (overlapping order m lo hi ≡ [])) (sym same) (some_of_is (overlapping order m lo hi))

    -- the entries with keys between the two bounds, of which those that end at most at hi
    pub within-contained : (m : List (Span E × V)) (lo hi : E) → AreIntervals order m
        → filter (λ e. is_le (order e.0.right hi)) (entries_between (span_cmp order) (Included (span lo lo)) (Included (span hi hi)) m) ≡ contained order m lo hi
    within-contained m lo hi all =
        filter-filter (λ e. is_le (span_cmp order (span lo lo) e.0) && not (is_lt (span_cmp order (span hi hi) e.0))) (λ e. is_le (order e.0.right hi)) m
        ∙ filter-same_keys (λ i. (is_le (span_cmp order (span lo lo) i) && not (is_lt (span_cmp order (span hi hi) i))) && is_le (order i.right hi)) (λ i. is_le (order lo i.left) && is_le (order i.right hi)) m
        (AllKeys-map (IsInterval order) (λ i. ((is_le (span_cmp order (span lo lo) i) && not (is_lt (span_cmp order (span hi hi) i))) && is_le (order i.right hi)) ≡ (is_le (order lo i.left) && is_le (order i.right hi))) (begins_within lo hi) m all)

    -- ---- the first that overlaps

    -- an entry, where it begins at most at hi
    abbrev pub if_begun : E → Option (Span E × V) → Option (Span E × V)
    if_begun hi None = None
    if_begun hi (Some e) = cond (is_le (order e.0.left hi)) (Some e) None

    -- behind an interval that begins behind hi all do
    none_begun : (e : Span E × V) (m : List (Span E × V)) (lo hi : E) → AllAbove (span_cmp order) m e.0 → is_le (order e.0.left hi) ≡ false → overlapping order m lo hi ≡ []
    none_begun e m lo hi above late =
        filter-no_keys (λ i. is_le (order i.left hi) && is_le (order lo i.right)) m
        (AllKeys-map (λ i. span_cmp order e.0 i ≡ Less) (λ i. (is_le (order i.left hi) && is_le (order lo i.right)) ≡ false)
        (λ i less. later (is_le (order i.left hi)) (is_le (order lo i.right)) (λ h. sym (le_trans total e.0.left i.left hi (begins_no_later e.0 i less) h) ∙ late)) m above)
      where
        later : (b c : Bool) → (b ≡ true → true ≡ false) → (b && c) ≡ false
        later true c f = absurd (true≢false (f refl))
        later false c f = refl

    pub first_hit : (m : List (Span E × V)) (lo hi : E) → IsIncreasing (span_cmp order) m
        → slice_get (overlapping order m lo hi) 0 ≡ if_begun hi (slice_get (aug_filter (λ key _. Some key.right) (end_reaches order lo) m) 0)
    first_hit [] lo hi s = refl
    first_hit (e ∷ m) lo hi s =
        let hits = overlapping order m lo hi in
        let ending = aug_filter (λ (key : Span E) (_ : V). Some key.right) (end_reaches order lo) m in
        elim (is_le (order lo e.0.right)) as (λ c. slice_get (cond (is_le (order e.0.left hi) && c) (e ∷ hits) hits) 0 ≡ if_begun hi (slice_get (cond c (e ∷ ending) ending) 0)) [
          | true ↦ elim (is_le (order e.0.left hi)) as (λ b. is_le (order e.0.left hi) ≡ b → slice_get (cond (b && true) (e ∷ hits) hits) 0 ≡ cond b (Some e) None) [
            | true ↦ λ _. refl
            | false ↦ λ late. ap (λ n. slice_get n 0) (none_begun e m lo hi s.0 late)
          ] refl
          | false ↦ elim (is_le (order e.0.left hi)) as (λ b. slice_get (cond (b && false) (e ∷ hits) hits) 0 ≡ if_begun hi (slice_get ending 0)) [
            | true ↦ first_hit m lo hi s.1
            | false ↦ first_hit m lo hi s.1
          ]
        ]

-- ---- the first entry

pub no_first : {X : Type 0} (m : List X) → slice_get m 0 ≡ None → m ≡ []
no_first [] none = refl
no_first (e ∷ m) none = cc

-- the entries up to a key, from the first one on

module _ {K V : Type 0} {order : K → K → Ordering} (total : IsTotalOrder order) where
  pub slice-first : (m : List (K × V)) (first : K × V) (last : K) → IsIncreasing order m → slice_get m 0 ≡ Some first → slice order m first.0 last ≡ left_of order m last
  slice-first [] first last s is = refl
  slice-first (e ∷ m) first last s is =
      let from : AllKeys (λ k. is_ge (order k e.0) ≡ true) (e ∷ m) = (ap is_ge (tied_itself total e.0), AllKeys-map (λ k. order e.0 k ≡ Less) (λ k. is_ge (order k e.0) ≡ true) (λ k less. ap is_ge (greater total e.0 k less)) m s.0) in
      let same : e ≡ first = cc in
      subst (λ (d : K × V). slice order (e ∷ m) d.0 last ≡ left_of order (e ∷ m) last) same
      (filter-same_keys (λ k. is_ge (order k e.0) && is_le (order k last)) (λ k. is_le (order k last)) (e ∷ m)
      (AllKeys-map (λ k. is_ge (order k e.0) ≡ true) (λ k. (is_ge (order k e.0) && is_le (order k last)) ≡ is_le (order k last)) (λ k h. ap (λ b. b && is_le (order k last)) h) (e ∷ m) from))
