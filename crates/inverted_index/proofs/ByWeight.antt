-- Documents sorted stably by falling weight are the documents by rank.
use Rattle.std.proofs.Common.{◌≡◌, ℕ, ◌+◌, ◌<◌, ◌≤◌, Bool, true, false, cond, ◌&&◌, List, [], ◌∷◌, get_or, refl, sym, ap, ap₂, ◌∙◌, add-one, arith}
use Rattle.std.specs.declared.cmp.Ordering.TheVariants.{Less}
use Rattle.std.specs.List.{AllByRecursion, filter}
use Rattle.std.specs.List.Sorted.{IsSortedBy, IsStableBy, IsStrictlySortedBy, ties}
use Rattle.std.specs.Ordering.{nat_cmp}
use Rattle.std.proofs.lemmas.Bool.Decides.{nat_tests}
use Rattle.map_model.specs.Entries.{AllAbove, IsIncreasing}
use Rattle.map_model.proofs.NatKeys.{lt_from_less}
use Rattle.inverted_index.specs.Queries.{rank_cmp, ranked, ranked_in, ranks_before}
use Rattle.inverted_index.specs.Ranks.{heavier}
use Rattle.inverted_index.proofs.Ranks.{all-ranked}
use Rattle.inverted_index.proofs.Ranked.{ranked_order}

-- of the same weight
abbrev alike : ℕ × ℕ → ℕ × ℕ → Bool
alike z a = ties heavier z a

-- no weight is above an earlier one
abbrev Falls : List (ℕ × ℕ) → Type 0
Falls [] = Unit {0}
Falls (a ∷ m) = AllByRecursion (λ b. b.1 ≤ a.1) m × Falls m

-- ---- weights

alike_itself : (a : ℕ × ℕ) → alike a a ≡ true
alike_itself a = grind (arith, nat_tests)

alike_equal : (a b : ℕ × ℕ) → a.1 ≡ b.1 → alike a b ≡ true
alike_equal a b is = grind (arith, nat_tests)

alike_lighter : (z b : ℕ × ℕ) → b.1 < z.1 → alike z b ≡ false
alike_lighter z b low = grind (arith, nat_tests)

not_both : (z a b : ℕ × ℕ) → a.1 < b.1 → (alike z a && alike z b) ≡ false
not_both z a b low = grind (arith, nat_tests)

no_heavier : (a b : ℕ × ℕ) → heavier b a ≡ false → b.1 ≤ a.1
no_heavier a b is = grind (arith, nat_tests)

later : (a b : ℕ × ℕ) → rank_cmp a b ≡ Less → b.1 ≤ a.1
later a b is = grind (arith, nat_tests)

passed : (a b : ℕ × ℕ) → ranks_before a b ≡ false → a.0 < b.0 → a.1 < b.1
passed a b is low = grind (arith, nat_tests)

-- ---- lists by falling weight

all-later : (a : ℕ × ℕ) (m : List (ℕ × ℕ)) → AllByRecursion (λ b. rank_cmp a b ≡ Less) m → AllByRecursion (λ b. b.1 ≤ a.1) m
all-later a [] h = tt
all-later a (b ∷ m) h = (later a b h.0, all-later a m h.1)

all-under : (x y : ℕ) (m : List (ℕ × ℕ)) → x < y → AllByRecursion (λ b. b.1 ≤ x) m → AllByRecursion (λ b. b.1 < y) m
all-under x y [] low h = tt
all-under x y (b ∷ m) low h = (omega (arith, h.0), all-under x y m low h.1)

all-upto : (x y : ℕ) (m : List (ℕ × ℕ)) → x ≤ y → AllByRecursion (λ b. b.1 ≤ x) m → AllByRecursion (λ b. b.1 ≤ y) m
all-upto x y [] low h = tt
all-upto x y (b ∷ m) low h = (omega (arith, h.0), all-upto x y m low h.1)

falls_order : (m : List (ℕ × ℕ)) → IsStrictlySortedBy rank_cmp m → Falls m
unfolding IsStrictlySortedBy
falls_order [] up = tt
falls_order (a ∷ m) up = (all-later a m up.0, falls_order m up.1)

behind : (a : ℕ × ℕ) (m : List (ℕ × ℕ)) (k : ℕ) (d : ℕ × ℕ) → get_or (a ∷ m) (k + 1) d ≡ get_or m k d
behind a m k d = rw (add-one k) refl

falls_sorted : (m : List (ℕ × ℕ)) → IsSortedBy heavier m → Falls m
falls_sorted [] up = tt
falls_sorted (a ∷ []) up = (tt, tt)
falls_sorted (a ∷ b ∷ m) up =
    let rest : Falls (b ∷ m) = falls_sorted (b ∷ m) (λ k d low here. ap₂ heavier (sym (behind a (b ∷ m) (k + 1) d)) (sym (behind a (b ∷ m) k d)) ∙ up (k + 1) d (omega arith) (omega arith)) in
    let first : b.1 ≤ a.1 = no_heavier a b (up 0 a (omega arith) (omega arith)) in
    ((first, all-upto b.1 a.1 m first rest.0), rest)

none_alike : (z : ℕ × ℕ) (m : List (ℕ × ℕ)) → AllByRecursion (λ b. b.1 < z.1) m → filter (alike z) m ≡ []
none_alike z [] h = refl
none_alike z (b ∷ m) h = ap (λ t. cond t (b ∷ filter (alike z) m) (filter (alike z) m)) (alike_lighter z b h.0) ∙ none_alike z m h.1

-- the first of its weight
first_alike : (z x : ℕ × ℕ) (m : List (ℕ × ℕ)) → z.1 ≡ x.1 → filter (alike z) (x ∷ m) ≡ x ∷ filter (alike z) m
first_alike z x m is = ap (λ t. cond t (x ∷ filter (alike z) m) (filter (alike z) m)) (alike_equal z x is)

tail_same : (b : Bool) (x : ℕ × ℕ) (s t : List (ℕ × ℕ)) → cond b (x ∷ s) s ≡ cond b (x ∷ t) t → s ≡ t
tail_same true x s t h = cc
tail_same false x s t h = h

abbrev StandAlike : List (ℕ × ℕ) → List (ℕ × ℕ) → Type 0
StandAlike xs ys = (z : ℕ × ℕ) → filter (alike z) xs ≡ filter (alike z) ys

-- a first that is heavier than all of the other list
no_match : (x : ℕ × ℕ) (xs ys : List (ℕ × ℕ)) → AllByRecursion (λ b. b.1 < x.1) ys → StandAlike (x ∷ xs) ys → ⊥
no_match x xs ys low h =
    let bad : x ∷ filter (alike x) xs ≡ [] = sym (first_alike x x xs refl) ∙ h x ∙ none_alike x ys low in
    cc

-- two lists by falling weight in which the documents of each weight stand alike
equal : (xs ys : List (ℕ × ℕ)) → Falls xs → Falls ys → StandAlike xs ys → xs ≡ ys
equal [] [] f g h = refl
equal [] (y ∷ ys) f g h = absurd (no_match y ys [] tt (λ z. sym (h z)))
equal (x ∷ xs) [] f g h = absurd (no_match x xs [] tt h)
equal (x ∷ xs) (y ∷ ys) f g h =
    let low : x.1 < y.1 → ⊥ = λ less. no_match y ys (x ∷ xs) (less, all-under x.1 y.1 xs less f.0) (λ z. sym (h z)) in
    let high : y.1 < x.1 → ⊥ = λ less. no_match x xs (y ∷ ys) (less, all-under y.1 x.1 ys less g.0) h in
    let level : x.1 ≡ y.1 = omega (arith, low, high) in
    let firsts : x ∷ filter (alike x) xs ≡ y ∷ filter (alike x) ys = sym (first_alike x x xs refl) ∙ h x ∙ first_alike x y ys level in
    let same : x ≡ y = cc in
    let rest : StandAlike xs ys = λ z. tail_same (alike z x) x (filter (alike z) xs) (filter (alike z) ys) (h z ∙ ap (λ e. filter (alike z) (e ∷ ys)) (sym same)) in
    ap (λ e. e ∷ xs) same ∙ ap (λ m. y ∷ m) (equal xs ys f.1 g.1 rest)

-- ---- the documents of a weight stand alike in a ranking

exchanged : (p q : Bool) (a b : ℕ × ℕ) (s : List (ℕ × ℕ)) → (p && q) ≡ false → cond q (b ∷ cond p (a ∷ s) s) (cond p (a ∷ s) s) ≡ cond p (a ∷ cond q (b ∷ s) s) (cond q (b ∷ s) s)
exchanged true true a b s h = cc
exchanged true false a b s h = refl
exchanged false true a b s h = refl
exchanged false false a b s h = refl

kept_in : (z a : ℕ × ℕ) (s : List (ℕ × ℕ)) → AllAbove nat_cmp s a.0 → filter (alike z) (ranked_in a s) ≡ filter (alike z) (a ∷ s)
kept_in z a [] above = refl
kept_in z a (b ∷ s) above =
    elim (ranks_before a b) as (λ t. ranks_before a b ≡ t → filter (alike z) (cond t (a ∷ b ∷ s) (b ∷ ranked_in a s)) ≡ filter (alike z) (a ∷ b ∷ s)) [
      | true ↦ λ _. refl
      | false ↦ λ is. ap (λ m. cond (alike z b) (b ∷ m) m) (kept_in z a s above.1) ∙ exchanged (alike z a) (alike z b) a b (filter (alike z) s) (not_both z a b (passed a b is (lt_from_less a.0 b.0 above.0)))
    ] refl

kept : (z : ℕ × ℕ) (m : List (ℕ × ℕ)) → IsIncreasing nat_cmp m → filter (alike z) (ranked m) ≡ filter (alike z) m
kept z [] rises = refl
kept z (a ∷ m) rises = kept_in z a (ranked m) (all-ranked (λ e. nat_cmp a.0 e.0 ≡ Less) m rises.0) ∙ ap (λ s. cond (alike z a) (a ∷ s) s) (kept z m rises.1)

pub sorted_ranking : (m sorted : List (ℕ × ℕ)) → IsIncreasing nat_cmp m → IsSortedBy heavier sorted → IsStableBy heavier m sorted → sorted ≡ ranked m
sorted_ranking m sorted rises up stable = equal sorted (ranked m) (falls_sorted sorted up) (falls_order (ranked m) (ranked_order m rises)) (λ z. stable z ∙ sym (kept z m rises))
