-- Intervals by where they begin and end.
use Rattle.std.proofs.Common.{◌≡◌, ℕ, ◌-◌, ◌^◌, ◌<◌, ◌≤◌, ◌&&◌, ◌||◌, ◌↔◌, IsTrue, Bool, true, false, cond, not, List, [], ◌∷◌, None, Some, nat_le, refl, ap, subst, ◌∙◌, arith}
use Rattle.std.proofs.lemmas.Bool.Decides.{nat_tests}
use Rattle.std.specs.BTreeMap.Range.{entries_between}
use Rattle.std.specs.declared.ops.Bound.TheVariants.{Included}
use Rattle.std.specs.List.{AllByRecursion, filter, slice_get}
use Rattle.std.specs.Map.{keys_of}
use Rattle.std.specs.Option.{option_map}
use Rattle.std.specs.Ordering.{is_ge, is_le, is_lt}
use Rattle.aug_monoid.specs.Exact.{pair64_cmp}
use Rattle.aug_monoid.specs.Greatest.{greater_of}
use Rattle.aug_monoid.specs.declared.pair64.Pair64.{Pair64}
use Rattle.map_model.specs.Fold.{aug_filter, fold_of}
use Rattle.map_model.specs.Parts.{left_of, slice}
use Rattle.interval_map.specs.Ends.{reaches, reaches_either}
use Rattle.interval_map.specs.Intervals.{IsInterval, contained, interval, overlap}
use Rattle.interval_map.proofs.Found.{some_of, some_of_is}

-- an interval is at most the one that begins at p and ends last where it begins at most at p
begins_by : (p : ℕ) (i : Pair64) → i.second < 2 ^ 64 → is_le (pair64_cmp i (interval p (2 ^ 64 - 1))) ≡ nat_le i.first p
begins_by p i h = grind (arith, nat_tests)

-- no interval is less than the least one
begins_from : (i : Pair64) → is_ge (pair64_cmp i (interval 0 0)) ≡ true
begins_from i = grind (arith, nat_tests)

-- an interval is between the least and the greatest ones that begin from lo to hi, and ends at most at hi, where it begins at least at lo and ends at most at hi
begins_within : (lo hi : ℕ) (i : Pair64) → i.first ≤ i.second → i.second < 2 ^ 64
    → ((is_le (pair64_cmp (interval lo 0) i) && not (is_lt (pair64_cmp (interval hi (2 ^ 64 - 1)) i))) && nat_le i.second hi) ≡ (nat_le lo i.first && nat_le i.second hi)
begins_within lo hi i ends fits = grind (arith, nat_tests)

module _ {V : Type 0} where
  -- the intervals that begin at most at hi, and of these the ones that end at least at lo
  pub keys-overlap : (m : List (Pair64 × V)) (lo hi : ℕ) → AllByRecursion IsInterval (keys_of m)
      → keys_of (aug_filter (λ key _. Some key.second) (reaches lo) (slice pair64_cmp m (interval 0 0) (interval hi (2 ^ 64 - 1)))) ≡ overlap (keys_of m) lo hi
  keys-overlap [] lo hi a = refl
  keys-overlap (e ∷ m) lo hi a =
      let rest = keys-overlap m lo hi a.1 in
      rw (begins_from e.0, begins_by hi e.0 a.0.1) (elim (nat_le e.0.first hi) as (λ b.
      keys_of (aug_filter (λ key _. Some key.second) (reaches lo) (cond b (e ∷ slice pair64_cmp m (interval 0 0) (interval hi (2 ^ 64 - 1))) (slice pair64_cmp m (interval 0 0) (interval hi (2 ^ 64 - 1)))))
      ≡ cond (b && nat_le lo e.0.second) (e.0 ∷ overlap (keys_of m) lo hi) (overlap (keys_of m) lo hi)) [
        | true ↦ elim (nat_le lo e.0.second) as (λ b.
            keys_of (cond b (e ∷ aug_filter (λ key _. Some key.second) (reaches lo) (slice pair64_cmp m (interval 0 0) (interval hi (2 ^ 64 - 1)))) (aug_filter (λ key _. Some key.second) (reaches lo) (slice pair64_cmp m (interval 0 0) (interval hi (2 ^ 64 - 1)))))
            ≡ cond b (e.0 ∷ overlap (keys_of m) lo hi) (overlap (keys_of m) lo hi)) [
              | true ↦ ap (λ is. e.0 ∷ is) rest
              | false ↦ rest
            ]
        | false ↦ rest
      ])

  -- the entries of the intervals that begin from lo to hi
  abbrev pub begun : List (Pair64 × V) → ℕ → ℕ → List (Pair64 × V)
  begun m lo hi = entries_between pair64_cmp (Included (interval lo 0)) (Included (interval hi (2 ^ 64 - 1))) m

  -- of these the ones that end at most at hi
  pub keys-contained : (m : List (Pair64 × V)) (lo hi : ℕ) → AllByRecursion IsInterval (keys_of m)
      → filter (λ i. nat_le i.second hi) (keys_of (begun m lo hi)) ≡ contained (keys_of m) lo hi
  keys-contained [] lo hi a = refl
  keys-contained (e ∷ m) lo hi a =
      let later = begun m lo hi in
      let kept = contained (keys_of m) lo hi in
      let rest : filter (λ i. nat_le i.second hi) (keys_of later) ≡ kept = keys-contained m lo hi a.1 in
      subst (λ (t : Bool). filter (λ i. nat_le i.second hi) (keys_of (begun (e ∷ m) lo hi)) ≡ cond t (e.0 ∷ kept) kept) (begins_within lo hi e.0 a.0.0 a.0.1)
      (elim (is_le (pair64_cmp (interval lo 0) e.0) && not (is_lt (pair64_cmp (interval hi (2 ^ 64 - 1)) e.0))) as (λ b.
      filter (λ i. nat_le i.second hi) (keys_of (cond b (e ∷ later) later)) ≡ cond (b && nat_le e.0.second hi) (e.0 ∷ kept) kept) [
        | true ↦ elim (nat_le e.0.second hi) as (λ b. cond b (e.0 ∷ filter (λ i. nat_le i.second hi) (keys_of later)) (filter (λ i. nat_le i.second hi) (keys_of later)) ≡ cond b (e.0 ∷ kept) kept) [
          | true ↦ ap (λ is. e.0 ∷ is) rest
          | false ↦ rest
        ]
        | false ↦ rest
      ])

  -- whether the greatest right end of the intervals that begin at most at hi is at least lo
  abbrev pub covers : List (Pair64 × V) → ℕ → ℕ → Bool
  covers m lo hi = reaches lo (fold_of (λ key _. Some key.second) None greater_of (left_of pair64_cmp m (interval hi (2 ^ 64 - 1))))

  covers_is : (m : List (Pair64 × V)) (lo hi : ℕ) → AllByRecursion IsInterval (keys_of m) → covers m lo hi ≡ some_of (overlap (keys_of m) lo hi)
  covers_is [] lo hi a = refl
  covers_is (e ∷ m) lo hi a =
      let rest = covers_is m lo hi a.1 in
      let fold = fold_of (λ (key : Pair64) (_ : V). Some key.second) None greater_of (left_of pair64_cmp m (interval hi (2 ^ 64 - 1))) in
      rw (begins_by hi e.0 a.0.1) (elim (nat_le e.0.first hi) as (λ b.
      reaches lo (fold_of (λ key _. Some key.second) None greater_of (cond b (e ∷ left_of pair64_cmp m (interval hi (2 ^ 64 - 1))) (left_of pair64_cmp m (interval hi (2 ^ 64 - 1)))))
      ≡ some_of (cond (b && nat_le lo e.0.second) (e.0 ∷ overlap (keys_of m) lo hi) (overlap (keys_of m) lo hi))) [
        | true ↦ reaches_either lo (Some e.0.second) fold tt tt ∙ elim (nat_le lo e.0.second) as (λ b. (b || reaches lo fold) ≡ some_of (cond b (e.0 ∷ overlap (keys_of m) lo hi) (overlap (keys_of m) lo hi))) [
          | true ↦ refl
          | false ↦ rest
        ]
        | false ↦ rest
      ])

  pub covers_hits : (m : List (Pair64 × V)) (lo hi : ℕ) (answer : Bool) → AllByRecursion IsInterval (keys_of m) → answer ≡ covers m lo hi → IsTrue answer ↔ ¬ (overlap (keys_of m) lo hi ≡ [])
  covers_hits m lo hi answer a is = rw (is, covers_is m lo hi a) (some_of_is (overlap (keys_of m) lo hi))

  -- the key of the first entry is the first of the keys
  pub first_key : (m : List (Pair64 × V)) → option_map (λ e. e.0) (slice_get m 0) ≡ slice_get (keys_of m) 0
  first_key [] = refl
  first_key (e ∷ m) = refl
