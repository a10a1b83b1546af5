-- What batches of pairs and of keys cost.
use Rattle.std.proofs.Common.{ℕ, ◌+◌, ◌*◌, ◌^◌, ◌≤◌, List, [], ◌∷◌, Option, Some, None, length, min, arith, mul-le-mul_left, mul-le-mul_right}
use Rattle.std.specs.declared.cmp.Ordering.{Ordering}
use Rattle.std.specs.Cmp.{IsTotalOrder}
use Rattle.std.specs.List.{cons_option, filter_map}
use Rattle.std.specs.Option.{option_map}
use Rattle.map_model.specs.Entries.{IsIncreasing, lookup, set}
use Rattle.map_model.specs.Order.{IsExact}
use Rattle.map_model.specs.Operations.{after, build, found_in, puts}
use Rattle.map_model.proofs.Cuts.{set_sizes}
use Rattle.map_model.proofs.Splits.{IsIncreasing-set}
use Rattle.bulk_ops.specs.Costs.{IsDeepEnough, step_cost}

module _ {K V : Type 0} {order : K → K → Ordering} (total : IsTotalOrder order) (exact : IsExact order) where
  length-puts_le : (m pairs : List (K × V)) → IsIncreasing order m → length (after order m (puts pairs)) ≤ length m + length pairs
  length-puts_le m [] up = omega arith
  length-puts_le m (p ∷ pairs) up =
      omega (arith, (set_sizes total exact m p.0 up p.1).1, length-puts_le (set order m p.0 p.1) pairs (IsIncreasing-set total m p.0 p.1 up))

  -- pairs make a map of at most as many entries
  pub length-build_le : (pairs : List (K × V)) → length (build order pairs) ≤ length pairs
  length-build_le pairs = omega (arith, length-puts_le [] pairs tt)

length-filter_map_le : {X Y : Type 0} (h : X → Option Y) (xs : List X) → length (filter_map h xs) ≤ length xs
length-filter_map_le h [] = omega arith
length-filter_map_le {Y = Y} h (x ∷ xs) =
    let rest = length-filter_map_le h xs in
    elim (h x) as (λ (o : Option Y). length (cons_option o (filter_map h xs)) ≤ length (x ∷ xs)) [
      | None ↦ omega (arith, rest)
      | Some y ↦ omega (arith, rest)
    ]

-- no more is found than was looked for
pub length-found_le : {K V : Type 0} (order : K → K → Ordering) (m : List (K × V)) (keys : List K) → length (found_in order m keys) ≤ length keys
length-found_le {K} {V} order m keys =
    length-filter_map_le {X = K} {Y = K × V} (λ k. option_map (λ (v : V). (k, v)) (lookup order m k)) keys

-- what is deep enough for a weight is so for a lesser one
still_deep : (levels w v : ℕ) → w ≤ v → IsDeepEnough levels v → IsDeepEnough levels w
still_deep levels w v less deep = omega (arith, mul-le-mul_left (7 ^ levels) less, deep)

-- a combination of n entries with at most k takes no more than with k
pub combined_within : (block find n m k levels before middle after more : ℕ) → m ≤ k → middle ≤ before + more
    → (IsDeepEnough levels (n + 1 + (m + 1)) → after ≤ middle + min n m * (levels + 1) * step_cost block find levels)
    → IsDeepEnough levels (n + k + 2) → after ≤ before + (more + min n k * (levels + 1) * step_cost block find levels)
combined_within block find n m k levels before middle after more fewer start cost deep =
    let less : min n m ≤ min n k = omega arith in
    let taken = cost (still_deep levels (n + 1 + (m + 1)) (n + k + 2) (omega arith) deep) in
    omega (arith, taken, start, mul-le-mul_right (step_cost block find levels) (mul-le-mul_right (levels + 1) less))
