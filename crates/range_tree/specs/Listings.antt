-- The list of the points of some rows, by (x, y).
use Rattle.std.specs.Prelude.{◌≡◌, ℕ, Bool, true, false, cond, ◌&&◌, List, [], ◌∷◌, ◌++◌, map, Option, Some, None, refl}
use Rattle.std.proofs.Common.{sym, ap, ap₂, ◌∙◌}
use Rattle.std.specs.List.{filter}
use Rattle.std.specs.Option.{option_or}
use Rattle.std.specs.declared.cmp.Ordering.TheVariants.{Less, Equal, Greater}
use Rattle.std.specs.Ordering.{is_eq, is_ge, is_le}
use Rattle.std.proofs.lemmas.List.{append_assoc, append-nil}
use Rattle.std.proofs.lemmas.List.Elements.{filter-append}
use Rattle.aug_monoid.specs.declared.pair64.Pair64.{Pair64}
use Rattle.aug_monoid.specs.Exact.{pair64_cmp, pair64_exact}
use Rattle.map_model.specs.Entries.{IsIncreasing, lookup}
use Rattle.map_model.specs.Fold.{IsMonoidOver, IsProjection}
use Rattle.map_model.specs.Operations.{build, last_at}
use Rattle.map_model.proofs.Keys.{IsIncreasing-filter, IsIncreasing-front, IsIncreasing-back}
use Rattle.map_model.proofs.Lookups.{lookup-behind, lookup-filter_keys, option_or-none}
use Rattle.map_model.proofs.Operations.{build-is, last_at-cons}
use Rattle.map_model.proofs.Unions.{united}
use Rattle.range_tree.specs.Places.{swapped, lines, least_at, greatest_at, pair64_total}
use Rattle.range_tree.specs.Rows.{AreRows, row_of, rows_of, rows_of_both, lookup-both}
use Rattle.range_tree.specs.Totals.{is_eq-swapped, rows_increase}

-- an entry of rows as one of points
abbrev pub swapped_entry : Pair64 × ℕ → Pair64 × ℕ
swapped_entry e = (swapped e.0, e.1)

-- the points of rows
abbrev pub points_of : List (Pair64 × ℕ) → List (Pair64 × ℕ)
points_of rows = build pair64_cmp (map swapped_entry rows)

-- points as rows: by (y, x)
abbrev pub by_rows : List (Pair64 × ℕ) → List (Pair64 × ℕ)
by_rows points = build pair64_cmp (map swapped_entry points)

-- the points of some rows with y from y1 to y2
abbrev pub rows_points : ℕ → ℕ → List (Pair64 × ℕ) → List (Pair64 × ℕ)
rows_points y1 y2 rows = points_of (lines y1 y2 rows)

pub append_monoid : {E : Type 0} → IsMonoidOver {X = List E} (λ _. Unit {0}) [] (λ a b. a ++ b)
append_monoid {E} = record {
  unit_fits = tt;
  combine_fits = λ _ _ _ _. tt;
  left_unit = λ a _. refl;
  right_unit = λ a _. append-nil a;
  assoc = λ a b c _ _ _. append_assoc a b c;
}

-- ---- look-ups

-- the place of a point decides where it is found among the exchanged ones, first and last
pub last_at-swapped : (rows : List (Pair64 × ℕ)) (q : Pair64) → AreRows rows → last_at pair64_cmp (map swapped_entry rows) q ≡ lookup pair64_cmp rows (swapped q)
last_at-swapped [] q s = refl
last_at-swapped (e ∷ rows) q s =
    last_at-cons pair64_cmp (swapped_entry e) (map swapped_entry rows) q
    ∙ ap₂ (λ o b. option_or o (cond b (Some e.1) None)) (last_at-swapped rows q s.1) (is_eq-swapped e.0 q)
    ∙ elim (pair64_cmp e.0 (swapped q)) as (λ o. pair64_cmp e.0 (swapped q) ≡ o → option_or (lookup pair64_cmp rows (swapped q)) (cond (is_eq o) (Some e.1) None) ≡ cond (is_eq o) (Some e.1) (lookup pair64_cmp rows (swapped q))) [
      | Less ↦ λ _. option_or-none (lookup pair64_cmp rows (swapped q))
      | Equal ↦ λ is. ap (λ o. option_or o (Some e.1)) (lookup-behind pair64_total e rows (swapped q) s is)
      | Greater ↦ λ _. option_or-none (lookup pair64_cmp rows (swapped q))
    ] refl

pub lookup-swapped : (rows : List (Pair64 × ℕ)) (q : Pair64) → lookup pair64_cmp (map swapped_entry rows) q ≡ lookup pair64_cmp rows (swapped q)
lookup-swapped [] q = refl
lookup-swapped (e ∷ rows) q = ap₂ (λ b o. cond b (Some e.1) o) (is_eq-swapped e.0 q) (lookup-swapped rows q)

united_one : (b : Bool) (v : ℕ) (o : Option ℕ) → (b ≡ true → o ≡ None) → united (λ v w. w) (cond b (Some v) None) o ≡ cond b (Some v) o
united_one true v o h = ap (united (λ v w. w) (Some v)) (h refl)
united_one false v None h = refl
united_one false v (Some w) h = refl

-- a point is found among the rows of a list where it is found in the list
lookup-rows : (m : List (Pair64 × ℕ)) (q : Pair64) → IsIncreasing pair64_cmp m → lookup pair64_cmp (rows_of m) q ≡ lookup pair64_cmp m (swapped q)
lookup-rows [] q s = refl
lookup-rows (e ∷ m) q s =
    lookup-both (row_of e.0 e.1) (rows_of m) q (rows_increase m)
    ∙ ap₂ (λ b o. united (λ v w. w) (cond b (Some e.1) None) o) (is_eq-swapped e.0 q) (lookup-rows m q s.1)
    ∙ united_one (is_eq (pair64_cmp e.0 (swapped q))) e.1 (lookup pair64_cmp m (swapped q)) (λ tied. lookup-behind pair64_total e m (swapped q) s (equal_from_test (pair64_cmp e.0 (swapped q)) tied))
  where
    equal_from_test : (o : _) → is_eq o ≡ true → o ≡ Equal
    equal_from_test Equal h = refl
    equal_from_test Less h = (cc)
    equal_from_test Greater h = (cc)

-- the folded rows of points are the points by rows
pub rows_are : (m : List (Pair64 × ℕ)) → IsIncreasing pair64_cmp m → rows_of m ≡ by_rows m
rows_are m s = sym (build-is pair64_total pair64_exact (map swapped_entry m) (rows_of m) (rows_increase m) (λ q. lookup-rows m q s ∙ sym (last_at-swapped m q s)))

-- ---- the points whose rows pass a test, in order

module _ (p : Pair64 → Bool) where
  pub points-rows : (m : List (Pair64 × ℕ)) → IsIncreasing pair64_cmp m → points_of (filter (λ e. p e.0) (rows_of m)) ≡ filter (λ e. p (swapped e.0)) m
  points-rows m s =
      let kept = IsIncreasing-filter pair64_cmp (λ (e : Pair64 × ℕ). p e.0) (rows_of m) (rows_increase m) in
      build-is pair64_total pair64_exact (map swapped_entry (filter (λ e. p e.0) (rows_of m))) (filter (λ e. p (swapped e.0)) m) (IsIncreasing-filter pair64_cmp (λ (e : Pair64 × ℕ). p (swapped e.0)) m s) (λ q.
      lookup-filter_keys pair64_exact (λ k. p (swapped k)) m q
      ∙ sym (last_at-swapped (filter (λ e. p e.0) (rows_of m)) q kept ∙ lookup-filter_keys pair64_exact p (rows_of m) (swapped q) ∙ ap (λ o. cond (p (swapped q)) o None) (lookup-rows m (swapped q) s)))

  points-projection : (l r : List (Pair64 × ℕ)) → IsIncreasing pair64_cmp (l ++ r) → points_of (filter (λ e. p e.0) (rows_of (l ++ r))) ≡ points_of (filter (λ e. p e.0) (rows_of l)) ++ points_of (filter (λ e. p e.0) (rows_of r))
  points-projection l r s =
      points-rows (l ++ r) s
      ∙ filter-append (λ (e : Pair64 × ℕ). p (swapped e.0)) l r
      ∙ sym (ap₂ (λ a b. a ++ b) (points-rows l (IsIncreasing-front pair64_cmp l r s)) (points-rows r (IsIncreasing-back pair64_cmp l r s)))

pub rows_points_projection : (y1 y2 : ℕ) → IsProjection pair64_cmp row_of [] rows_of_both (rows_points y1 y2) (λ a b. a ++ b)
rows_points_projection y1 y2 = λ l r s. points-projection (λ k. is_ge (pair64_cmp k (least_at y1)) && is_le (pair64_cmp k (greatest_at y2))) l r s
