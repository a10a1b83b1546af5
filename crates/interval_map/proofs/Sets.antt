-- Sets of many intervals, and single ones in them, from the entries of maps.
use Rattle.std.proofs.Common.{◌≡◌, ℕ, zero, suc, ◌+◌, ◌<◌, ◌↔◌, Bool, true, false, not, ◌||◌, cond, IsTrue, List, [], ◌∷◌, Some, None, Contains, is_none, is_some, refl, ap, subst, ◌∙◌}
use Rattle.std.specs.Cmp.{IsTotalOrder}
use Rattle.std.proofs.lemmas.Cmp.{nat_cmp_total, on_total, then_total}
use Rattle.std.proofs.lemmas.List.Elements.{filter_agree}
use Rattle.std.specs.List.{AllByRecursion, cons_option, fold}
use Rattle.std.specs.Map.{keys_of}
use Rattle.std.specs.Option.{option_map, option_map_or}
use Rattle.std.specs.Ordering.{is_eq}
use Rattle.aug_monoid.specs.Exact.{pair64_cmp, pair64_exact}
use Rattle.aug_monoid.specs.declared.pair64.Pair64.{Pair64}
use Rattle.map_model.specs.Entries.{lookup, set}
use Rattle.map_model.proofs.Members.{has_key}
use Rattle.map_model.specs.Operations.{after, puts}
use Rattle.map_model.specs.SetOperations.{difference, intersect, union}
use Rattle.interval_map.specs.Intervals.{IsInterval, common_intervals, is_among, with_interval, with_intervals, without_intervals}
use Rattle.interval_map.proofs.Keys.{keys-filter, keys-set, with_ends}

-- intervals stay intervals
pub with_all_ends : (is js : List Pair64) → AllByRecursion IsInterval is → AllByRecursion IsInterval js → AllByRecursion IsInterval (with_intervals is js)
with_all_ends is [] a b = a
with_all_ends is (j ∷ js) a b = with_all_ends (with_interval is j) js (with_ends is j a b.0) b.1

pub pair64_total : IsTotalOrder pair64_cmp
pair64_total = then_total (on_total (λ (i : Pair64). i.first) nat_cmp_total) (on_total (λ (i : Pair64). i.second) nat_cmp_total)

module _ {V : Type 0} where
  -- the intervals of a map after puts
  pub keys-puts : (m ps : List (Pair64 × V)) → keys_of (after pair64_cmp m (puts ps)) ≡ with_intervals (keys_of m) (keys_of ps)
  keys-puts m [] = refl
  keys-puts m (p ∷ ps) = keys-puts (set pair64_cmp m p.0 p.1) ps ∙ ap (λ is. with_intervals is (keys_of ps)) (keys-set m p.0 p.1)

  keys-sets : (val : Pair64 × V → V) (m es : List (Pair64 × V)) → keys_of (fold (λ n e. set pair64_cmp n e.0 (val e)) m es) ≡ with_intervals (keys_of m) (keys_of es)
  keys-sets val m [] = refl
  keys-sets val m (e ∷ es) = keys-sets val (set pair64_cmp m e.0 (val e)) es ∙ ap (λ is. with_intervals is (keys_of es)) (keys-set m e.0 (val e))

  -- the intervals of two maps
  pub keys-union : (f : V → V → V) (a b : List (Pair64 × V)) → keys_of (union pair64_cmp f a b) ≡ with_intervals (keys_of a) (keys_of b)
  keys-union f a b = keys-sets (λ e. option_map_or (λ v. f v e.1) (lookup pair64_cmp a e.0) e.1) a b

-- a map has an interval where it has an entry for it
pub has_interval : {V : Type 0} (m : List (Pair64 × V)) (i : Pair64) (answer : Bool) → answer ≡ is_some (lookup pair64_cmp m i) → IsTrue answer ↔ Contains (keys_of m) i
has_interval = has_key pair64_total pair64_exact

-- ---- the intervals that a map has, and those that it hasn't

module _ {V : Type 0} where
  -- a map finds something at the intervals that are among its own
  found : (m : List (Pair64 × V)) (i : Pair64) → is_some (lookup pair64_cmp m i) ≡ is_among i (keys_of m)
  found [] i = refl
  found (e ∷ m) i = elim (is_eq (pair64_cmp e.0 i)) as (λ b. is_some (cond b (Some e.1) (lookup pair64_cmp m i)) ≡ (b || is_among i (keys_of m))) [
    | true ↦ refl
    | false ↦ found m i
  ]

  -- the intervals of a map that another hasn't
  pub keys-difference : (a b : List (Pair64 × V)) → keys_of (difference pair64_cmp a b) ≡ without_intervals (keys_of a) (keys_of b)
  keys-difference a b =
      keys-filter (λ i. is_none (lookup pair64_cmp b i)) a
      ∙ filter_agree (λ i. is_none (lookup pair64_cmp b i)) (λ i. not (is_among i (keys_of b))) (λ i. ap not (found b i)) (keys_of a)

  -- the intervals that two maps have
  pub keys-intersect : (f : V → V → V) (a b : List (Pair64 × V)) → keys_of (intersect pair64_cmp f a b) ≡ common_intervals (keys_of a) (keys_of b)
  keys-intersect f [] b = refl
  keys-intersect f (e ∷ a) b =
      let rest = keys-intersect f a b in
      subst (λ (t : Bool). keys_of (intersect pair64_cmp f (e ∷ a) b) ≡ cond t (e.0 ∷ common_intervals (keys_of a) (keys_of b)) (common_intervals (keys_of a) (keys_of b))) (found b e.0)
      (elim (lookup pair64_cmp b e.0) as (λ o. keys_of (cons_option (option_map (λ w. (e.0, f e.1 w)) o) (intersect pair64_cmp f a b)) ≡ cond (is_some o) (e.0 ∷ common_intervals (keys_of a) (keys_of b)) (common_intervals (keys_of a) (keys_of b))) [
        | None ↦ rest
        | Some w ↦ ap (λ is. e.0 ∷ is) rest
      ])
