-- The height of a map of intervals, and the tests of a filter of it.
use Rattle.std.proofs.Common.{◌≡◌, ℕ, zero, suc, ◌+◌, ◌-◌, ◌*◌, ◌^◌, ◌<◌, ◌≤◌, List, [], ◌∷◌, Some, length, refl, sym, ap, ◌∙◌, arith, inl, inr, pow-suc, mul-le-mul_left}
use Rattle.std.proofs.lemmas.Bool.{cases_lt}
use Rattle.std.specs.List.{AllByRecursion}
use Rattle.std.specs.Map.{keys_of}
use Rattle.aug_monoid.specs.Exact.{pair64_cmp}
use Rattle.aug_monoid.specs.declared.pair64.Pair64.{Pair64}
use Rattle.map_model.specs.Balance.{HeightLaw}
use Rattle.map_model.specs.Fold.{aug_filter}
use Rattle.map_model.specs.Parts.{slice}
use Rattle.map_model.proofs.Lengths.{length-filter_le}
use Rattle.interval_map.specs.Ends.{reaches}
use Rattle.interval_map.specs.Heights.{IsHighest}
use Rattle.interval_map.specs.Intervals.{IsInterval, interval, overlap}
use Rattle.interval_map.proofs.Hits.{keys-overlap}

-- powers that have outgrown others go on to
outgrown : (c b low k h : ℕ) → h ≡ low + k → 3 ^ low * c < 4 ^ low * b → 3 ^ h * c < 4 ^ h * b
outgrown c b low zero h is less = let same : h ≡ low = omega (arith, is) in rw same less
outgrown c b low (suc k) zero is less = absurd (omega (arith, is))
outgrown c b low (suc k) (suc h) is less =
    rw (pow-suc 3 h, pow-suc 4 h) (let before = outgrown c b low k h (omega (arith, is)) less in omega (arith, before))

-- a map of no more entries is no higher
no_higher : (count n height h : ℕ) → n ≤ count → HeightLaw 64 h n → IsHighest count height → h ≤ height
no_higher count n height h few law highest =
    elim (cases_lt height h) [
      | inl high ↦ elim (cases_lt n 64) [
        | inl short ↦ absurd (let low = law.one_block (omega (arith, short)) in omega (arith, high, low))
        | inr long ↦ absurd (
            let less = outgrown (count + 1) 65 (height + 1) (h - (height + 1)) h (omega (arith, high)) highest in
            let bound = law.bound long in
            let weights : n + 1 ≤ count + 1 = omega (arith, few) in
            let more = mul-le-mul_left (3 ^ h) weights in
            omega (arith, less, bound, more))
      ]
      | inr low ↦ low
    ]

-- the tests of a filter of such a map
tests_within : (kept low height start tests : ℕ) → low ≤ height → tests ≤ start + (1 + kept * (3 * low + 2 * 64)) → tests ≤ start + (1 + kept * (3 * height + 128))
tests_within kept low height start tests lower few =
    let more : 3 * low + 128 ≤ 3 * height + 128 = omega (arith, lower) in
    let up = mul-le-mul_left kept more in
    omega (arith, up, few)

-- as many keys as entries
keys_count : {K V : Type 0} (m : List (K × V)) → length (keys_of m) ≡ length m
keys_count [] = refl
keys_count (e ∷ m) = omega (arith, keys_count m)

-- the tests of the filter that finds what overlaps a range, of the part of a set's map that begins at most at its end
pub overlap_tests : {V : Type 0} (map part : List (Pair64 × V)) (set : List Pair64) (lo hi low height start tests : ℕ)
    → AllByRecursion IsInterval (keys_of map) → keys_of map ≡ set → part ≡ slice pair64_cmp map (interval 0 0) (interval hi (2 ^ 64 - 1))
    → HeightLaw 64 low (length part) → IsHighest (length set) height
    → tests ≤ start + (1 + length (aug_filter (λ key _. Some key.second) (reaches lo) part) * (3 * low + 2 * 64))
    → tests ≤ start + (1 + length (overlap set lo hi) * (3 * height + 128))
overlap_tests {V} map part set lo hi low height start tests ends seen begun law highest few =
    let hits = aug_filter (λ (key : Pair64) (_ : V). Some key.second) (reaches lo) part in
    let kept : length hits ≡ length (overlap set lo hi) =
    sym (keys_count hits) ∙ ap (λ m. length (keys_of (aug_filter (λ (key : Pair64) (_ : V). Some key.second) (reaches lo) m))) begun ∙ ap length (keys-overlap map lo hi ends) ∙ ap (λ is. length (overlap is lo hi)) seen in
    let size : length map ≡ length set = sym (keys_count map) ∙ ap length seen in
    let fewer : length (slice pair64_cmp map (interval 0 0) (interval hi (2 ^ 64 - 1))) ≤ length map = length-filter_le _ map in
    let lower = no_higher (length set) (length part) height low (omega (arith, ap length begun, fewer, size)) law highest in
    tests_within (length (overlap set lo hi)) low height start tests lower (rw kept at few)
