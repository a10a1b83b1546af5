-- Totals of rows, and how they are combined.
use Rattle.std.specs.Prelude.{◌≡◌, ℕ, ◌+◌, ◌-◌, ◌^◌, ◌≤◌, Bool, true, false, cond, ◌&&◌, List, [], ◌∷◌, ◌++◌, length, min, refl, None}
use Rattle.std.proofs.Common.{sym, ap, ap₂, ◌∙◌, arith, length-append}
use Rattle.std.specs.List.{filter}
use Rattle.std.specs.declared.cmp.Ordering.TheVariants.{Less}
use Rattle.std.specs.Ordering.{is_eq, is_ge, is_le, nat_cmp}
use Rattle.std.specs.Cmp.{tied_then}
use Rattle.std.proofs.Math.Bool.{and_comm}
use Rattle.std.proofs.lemmas.List.Sums.{sum_by-append}
use Rattle.std.proofs.lemmas.List.Elements.{filter-append}
use Rattle.aug_monoid.specs.declared.pair64.Pair64.{Pair64}
use Rattle.aug_monoid.specs.Exact.{pair64_cmp, pair64_exact}
use Rattle.map_model.specs.Entries.{AllKeys, IsIncreasing, lookup, below, above}
use Rattle.map_model.specs.Fold.{IsMonoidOver, IsProjection}
use Rattle.map_model.proofs.Keys.{AllKeys-map, IsIncreasing-front, IsIncreasing-back, greater}
use Rattle.map_model.proofs.Folds.{fold-fits}
use Rattle.map_model.proofs.Lookups.{lookup-absent}
use Rattle.map_model.proofs.Splits.{split_absent, IsIncreasing-below, IsIncreasing-above}
use Rattle.map_model.proofs.Unions.{AllKeys-union, union-split_first, nil-union}
use Rattle.range_tree.specs.declared.points.Total.{Total}
use Rattle.range_tree.specs.Places.{swapped, lines, least_at, greatest_at, pair64_total}
use Rattle.range_tree.specs.Rows.{AreRows, row_of, rows_of, rows_of_both, rows_monoid, row_increases}
use Rattle.range_tree.specs.Points.{weight_sum}

-- ---- totals

-- both parts are numbers of 64 bits
abbrev pub TotalFits : Total → Type 0
TotalFits t = (t.sum ≤ 2 ^ 64 - 1) × (t.count ≤ 2 ^ 64 - 1)

-- two numbers, brought into 64 bits
abbrev pub capped : ℕ → ℕ → Total
capped sum count = record { sum = min sum (2 ^ 64 - 1); count = min count (2 ^ 64 - 1) }

abbrev pub total_both : Total → Total → Total
total_both a b = capped (a.sum + b.sum) (a.count + b.count)

-- the sum of the weights and how many points there are
abbrev pub capped_total : List (Pair64 × ℕ) → Total
capped_total m = capped (weight_sum m) (length m)

-- of the points of some rows with y from y1 to y2
abbrev pub rows_total : ℕ → ℕ → List (Pair64 × ℕ) → Total
rows_total y1 y2 rows = capped_total (lines y1 y2 rows)

same_total : (a b c d : ℕ) → a ≡ b → c ≡ d → ◌≡◌ {A = Total} (record { sum = a; count = c }) (record { sum = b; count = d })
same_total a b c d e f = ap₂ (λ (x y : ℕ). let t : Total = record { sum = x; count = y } in t) e f

pub rows_total_fits : (y1 y2 : ℕ) (rows : List (Pair64 × ℕ)) → TotalFits (rows_total y1 y2 rows)
rows_total_fits y1 y2 rows = (omega arith, omega arith)

pub total_monoid : IsMonoidOver TotalFits (capped 0 0) total_both
total_monoid = record {
  unit_fits = (omega arith, omega arith);
  combine_fits = λ a b f g. (omega arith, omega arith);
  left_unit = λ a f. same_total _ _ _ _ (omega arith) (omega arith);
  right_unit = λ a f. same_total _ _ _ _ (omega arith) (omega arith);
  assoc = λ a b c f g h. same_total _ _ _ _ (omega arith) (omega arith);
}

-- ---- places exchanged

pub is_eq-swapped : (a b : Pair64) → is_eq (pair64_cmp (swapped a) b) ≡ is_eq (pair64_cmp a (swapped b))
is_eq-swapped a b = sym (tied_then (nat_cmp a.second b.first) (nat_cmp a.first b.second)) ∙ and_comm (is_eq (nat_cmp a.second b.first)) (is_eq (nat_cmp a.first b.second)) ∙ tied_then (nat_cmp a.first b.second) (nat_cmp a.second b.first)

swapped_apart : (a b : Pair64) → pair64_cmp a b ≡ Less → is_eq (pair64_cmp (swapped b) (swapped a)) ≡ false
swapped_apart a b h = is_eq-swapped b (swapped a) ∙ ap is_eq (greater pair64_total a b h)

-- ---- one point more

rows_keys : (P : Pair64 → Type 0) (m : List (Pair64 × ℕ)) → AllKeys (λ k. P (swapped k)) m → AllKeys P (rows_of m)
rows_keys P [] a = tt
rows_keys P (e ∷ m) a = AllKeys-union pair64_total (λ v w. w) P (row_of e.0 e.1) (rows_of m) (a.0, tt) (rows_keys P m a.1)

pub rows_increase : (m : List (Pair64 × ℕ)) → AreRows (rows_of m)
rows_increase m = fold-fits {base = row_of} rows_monoid row_increases m

-- the rows of the points after one haven't its place
pub row_absent : (e : Pair64 × ℕ) (m : List (Pair64 × ℕ)) → IsIncreasing pair64_cmp (e ∷ m) → lookup pair64_cmp (rows_of m) (swapped e.0) ≡ None
row_absent e m s =
    lookup-absent pair64_cmp (rows_of m) (swapped e.0) (rows_keys (λ k. is_eq (pair64_cmp k (swapped e.0)) ≡ false) m (AllKeys-map (λ k. pair64_cmp e.0 k ≡ Less) (λ k. is_eq (pair64_cmp (swapped k) (swapped e.0)) ≡ false) (λ k h. swapped_apart e.0 k h) m s.0))

-- an entry stands between what is below its key and what is above it
one_more : (k : Pair64) (v : ℕ) (rows : List (Pair64 × ℕ)) → AreRows rows → lookup pair64_cmp rows k ≡ None → rows_of_both ((k, v) ∷ []) rows ≡ below pair64_cmp rows k ++ (k, v) ∷ above pair64_cmp rows k
one_more k v rows s none =
    union-split_first pair64_total pair64_exact (λ v w. w) [] k v [] rows (tt, tt) s
    ∙ rw none (ap₂ (λ x y. x ++ (k, v) ∷ y) (nil-union pair64_total pair64_exact (λ v w. w) (below pair64_cmp rows k) (IsIncreasing-below pair64_cmp rows k s)) (nil-union pair64_total pair64_exact (λ v w. w) (above pair64_cmp rows k) (IsIncreasing-above pair64_cmp rows k s)))

-- ---- what is counted entry by entry

module _ (count other : List (Pair64 × ℕ) → ℕ) (nothing : count [] ≡ other []) (one : (k : Pair64) (v : ℕ) → count (row_of k v) ≡ other ((k, v) ∷ [])) (count_adds : (l r : List (Pair64 × ℕ)) → count (l ++ r) ≡ count l + count r) (other_adds : (l r : List (Pair64 × ℕ)) → other (l ++ r) ≡ other l + other r) where
  count-more : (k : Pair64) (v : ℕ) (rows : List (Pair64 × ℕ)) → AreRows rows → lookup pair64_cmp rows k ≡ None → count (rows_of_both ((k, v) ∷ []) rows) ≡ count ((k, v) ∷ []) + count rows
  count-more k v rows s none =
      let low = below pair64_cmp rows k in
      let high = above pair64_cmp rows k in
      let new : count (rows_of_both ((k, v) ∷ []) rows) ≡ count low + count ((k, v) ∷ high) = ap count (one_more k v rows s none) ∙ count_adds low ((k, v) ∷ high) in
      let middle : count ((k, v) ∷ high) ≡ count ((k, v) ∷ []) + count high = count_adds ((k, v) ∷ []) high in
      let old : count rows ≡ count low + count high = ap count (split_absent pair64_total pair64_exact rows k s none) ∙ count_adds low high in
      omega (arith, new, middle, old)

  count-rows : (m : List (Pair64 × ℕ)) → IsIncreasing pair64_cmp m → count (rows_of m) ≡ other m
  count-rows [] s = nothing
  count-rows (e ∷ m) s =
      let more = count-more (swapped e.0) e.1 (rows_of m) (rows_increase m) (row_absent e m s) in
      let rest = count-rows m s.1 in
      let first = one e.0 e.1 in
      let whole : other (e ∷ m) ≡ other ((e.0, e.1) ∷ []) + other m = other_adds ((e.0, e.1) ∷ []) m in
      omega (arith, more, rest, first, whole)

-- ---- the total of the points whose rows pass a test

module _ (p : Pair64 → Bool) where
  abbrev passing_rows : List (Pair64 × ℕ) → List (Pair64 × ℕ)
  passing_rows rows = filter (λ e. p e.0) rows

  abbrev passing : List (Pair64 × ℕ) → List (Pair64 × ℕ)
  passing m = filter (λ e. p (swapped e.0)) m

  weight_of_one : (k : Pair64) (v : ℕ) → weight_sum (passing_rows (row_of k v)) ≡ weight_sum (passing ((k, v) ∷ []))
  weight_of_one k v = elim (p (swapped k)) as (λ b. weight_sum (cond b ((swapped k, v) ∷ []) []) ≡ weight_sum (cond b ((k, v) ∷ []) [])) [ true ↦ refl | false ↦ refl ]

  count_of_one : (k : Pair64) (v : ℕ) → length (passing_rows (row_of k v)) ≡ length (passing ((k, v) ∷ []))
  count_of_one k v = elim (p (swapped k)) as (λ b. length (cond b (row_of k v) []) ≡ length (cond b (row_of (swapped k) v) [])) [ true ↦ refl | false ↦ refl ]

  sum-filter : (q : Pair64 × ℕ → Bool) (l r : List (Pair64 × ℕ)) → weight_sum (filter q (l ++ r)) ≡ weight_sum (filter q l) + weight_sum (filter q r)
  sum-filter q l r = ap weight_sum (filter-append q l r) ∙ sum_by-append (λ (e : Pair64 × ℕ). e.1) (filter q l) (filter q r)

  count-filter : (q : Pair64 × ℕ → Bool) (l r : List (Pair64 × ℕ)) → length (filter q (l ++ r)) ≡ length (filter q l) + length (filter q r)
  count-filter q l r = ap length (filter-append q l r) ∙ length-append (filter q l) (filter q r)

  weight-rows : (m : List (Pair64 × ℕ)) → IsIncreasing pair64_cmp m → weight_sum (passing_rows (rows_of m)) ≡ weight_sum (passing m)
  weight-rows m s = count-rows (λ m. weight_sum (passing_rows m)) (λ m. weight_sum (passing m)) refl weight_of_one (sum-filter (λ e. p e.0)) (sum-filter (λ e. p (swapped e.0))) m s

  number-rows : (m : List (Pair64 × ℕ)) → IsIncreasing pair64_cmp m → length (passing_rows (rows_of m)) ≡ length (passing m)
  number-rows m s = count-rows (λ m. length (passing_rows m)) (λ m. length (passing m)) refl count_of_one (count-filter (λ e. p e.0)) (count-filter (λ e. p (swapped e.0))) m s

  pub total-rows : (m : List (Pair64 × ℕ)) → IsIncreasing pair64_cmp m → capped (weight_sum (filter (λ e. p e.0) (rows_of m))) (length (filter (λ e. p e.0) (rows_of m))) ≡ capped (weight_sum (filter (λ e. p (swapped e.0)) m)) (length (filter (λ e. p (swapped e.0)) m))
  total-rows m s = ap₂ capped (weight-rows m s) (number-rows m s)

  total-append : (l r : List (Pair64 × ℕ)) → capped (weight_sum (passing (l ++ r))) (length (passing (l ++ r))) ≡ total_both (capped (weight_sum (passing l)) (length (passing l))) (capped (weight_sum (passing r)) (length (passing r)))
  total-append l r =
      let sums = sum-filter (λ e. p (swapped e.0)) l r in
      let counts = count-filter (λ e. p (swapped e.0)) l r in
      same_total _ _ _ _ (omega (arith, sums)) (omega (arith, counts))

  pub total-projection : (l r : List (Pair64 × ℕ)) → IsIncreasing pair64_cmp (l ++ r) → capped (weight_sum (filter (λ e. p e.0) (rows_of (l ++ r)))) (length (filter (λ e. p e.0) (rows_of (l ++ r)))) ≡ total_both (capped (weight_sum (filter (λ e. p e.0) (rows_of l))) (length (filter (λ e. p e.0) (rows_of l)))) (capped (weight_sum (filter (λ e. p e.0) (rows_of r))) (length (filter (λ e. p e.0) (rows_of r))))
  total-projection l r s =
      total-rows (l ++ r) s ∙ total-append l r ∙ sym (ap₂ total_both (total-rows l (IsIncreasing-front pair64_cmp l r s)) (total-rows r (IsIncreasing-back pair64_cmp l r s)))

pub rows_projection : (y1 y2 : ℕ) → IsProjection pair64_cmp row_of [] rows_of_both (rows_total y1 y2) total_both
rows_projection y1 y2 = λ l r s. total-projection (λ k. is_ge (pair64_cmp k (least_at y1)) && is_le (pair64_cmp k (greatest_at y2))) l r s
