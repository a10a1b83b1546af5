-- The augmented values of a map of points: the same points by rows, ordered by (y, x).
use Rattle.std.specs.Prelude.{◌≡◌, ℕ, List, [], ◌∷◌, Option, Some, None, refl}
use Rattle.std.proofs.Common.{sym, ap, ◌∙◌}
use Rattle.aug_monoid.specs.declared.pair64.Pair64.{Pair64}
use Rattle.aug_monoid.specs.Exact.{pair64_cmp, pair64_exact}
use Rattle.map_model.specs.Entries.{IsIncreasing, lookup}
use Rattle.map_model.specs.Fold.{IsMonoidOver, fold_of}
use Rattle.map_model.specs.SetOperations.{union}
use Rattle.map_model.proofs.Lookups.{equal_lookups}
use Rattle.map_model.proofs.Unions.{IsIncreasing-union, lookup-union, nil-union, united}
use Rattle.range_tree.specs.Places.{swapped, pair64_total}

abbrev pub AreRows : List (Pair64 × ℕ) → Type 0
AreRows rows = IsIncreasing pair64_cmp rows

-- the rows of one point
abbrev pub row_of : Pair64 → ℕ → List (Pair64 × ℕ)
row_of place weight = (swapped place, weight) ∷ []

-- the points of both
abbrev pub rows_of_both : List (Pair64 × ℕ) → List (Pair64 × ℕ) → List (Pair64 × ℕ)
rows_of_both a b = union pair64_cmp (λ v w. w) a b

-- the rows of all points of a list
abbrev pub rows_of : List (Pair64 × ℕ) → List (Pair64 × ℕ)
rows_of m = fold_of row_of [] rows_of_both m

pub row_increases : (place : Pair64) (weight : ℕ) → AreRows (row_of place weight)
row_increases place weight = (tt, tt)

united_assoc : (o p q : Option ℕ) → united (λ v w. w) (united (λ v w. w) o p) q ≡ united (λ v w. w) o (united (λ v w. w) p q)
united_assoc o None None = refl
united_assoc None None (Some w) = refl
united_assoc (Some u) None (Some w) = refl
united_assoc o (Some v) None = refl
united_assoc None (Some v) (Some w) = refl
united_assoc (Some u) (Some v) (Some w) = refl

rows_of_both-increasing : (a b : List (Pair64 × ℕ)) → AreRows a → AreRows (rows_of_both a b)
rows_of_both-increasing a b s = IsIncreasing-union pair64_total (λ v w. w) a b s

pub lookup-both : (a b : List (Pair64 × ℕ)) (q : Pair64) → AreRows b → lookup pair64_cmp (rows_of_both a b) q ≡ united (λ v w. w) (lookup pair64_cmp a q) (lookup pair64_cmp b q)
lookup-both a b q t = lookup-union pair64_total pair64_exact (λ v w. w) a b q t

rows_assoc : (a b c : List (Pair64 × ℕ)) → AreRows a → AreRows b → AreRows c → rows_of_both (rows_of_both a b) c ≡ rows_of_both a (rows_of_both b c)
rows_assoc a b c s t u =
    let ab = rows_of_both-increasing a b s in
    let bc = rows_of_both-increasing b c t in
    equal_lookups pair64_total pair64_exact (rows_of_both (rows_of_both a b) c) (rows_of_both a (rows_of_both b c)) (rows_of_both-increasing (rows_of_both a b) c ab) (rows_of_both-increasing a (rows_of_both b c) s) (λ q.
    lookup-both (rows_of_both a b) c q u
    ∙ ap (λ o. united (λ v w. w) o (lookup pair64_cmp c q)) (lookup-both a b q t)
    ∙ united_assoc (lookup pair64_cmp a q) (lookup pair64_cmp b q) (lookup pair64_cmp c q)
    ∙ sym (lookup-both a (rows_of_both b c) q bc ∙ ap (united (λ v w. w) (lookup pair64_cmp a q)) (lookup-both b c q u)))

pub rows_monoid : IsMonoidOver AreRows [] rows_of_both
rows_monoid = record {
  unit_fits = tt;
  combine_fits = λ a b s t. rows_of_both-increasing a b s;
  left_unit = λ a s. nil-union pair64_total pair64_exact (λ v w. w) a s;
  right_unit = λ a s. refl;
  assoc = rows_assoc;
}
