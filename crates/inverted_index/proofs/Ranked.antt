-- Documents by rank are the same documents, and each ranks before all later ones.
use Rattle.std.proofs.Common.{◌≡◌, ℕ, ◌<◌, true, false, cond, List, [], ◌∷◌, take, refl, arith}
use Rattle.std.specs.declared.cmp.Ordering.TheVariants.{Less}
use Rattle.std.specs.Cmp.{IsTotalOrder}
use Rattle.std.specs.List.{AllByRecursion}
use Rattle.std.specs.List.Sorted.{IsPermutation, IsStrictlySortedBy}
use Rattle.std.specs.Ordering.{nat_cmp}
use Rattle.std.proofs.lemmas.Bool.Decides.{nat_tests}
use Rattle.std.proofs.lemmas.Cmp.{back_total, nat_cmp_total, on_total, then_total}
use Rattle.std.proofs.lemmas.List.Sorted.{IsPermutation-cons, IsPermutation-middle, IsPermutation-refl, IsPermutation-trans}
use Rattle.map_model.specs.Entries.{AllAbove, IsIncreasing}
use Rattle.map_model.proofs.NatKeys.{lt_from_less}
use Rattle.inverted_index.specs.Queries.{AreTop, hits_of, rank_cmp, ranked, ranked_in, ranks_before}
use Rattle.inverted_index.specs.declared.hit.Hit.{Hit}
use Rattle.inverted_index.proofs.Ranks.{all-ranked, all-ranked_in}

rank_total : IsTotalOrder rank_cmp
rank_total = then_total (back_total (on_total (λ (a : ℕ × ℕ). a.1) nat_cmp_total)) (on_total (λ (a : ℕ × ℕ). a.0) nat_cmp_total)

before : (d g y v : ℕ) → ranks_before (d, g) (y, v) ≡ true → d < y → rank_cmp (d, g) (y, v) ≡ Less
before d g y v is low = grind (arith, nat_tests)

after : (d g y v : ℕ) → ranks_before (d, g) (y, v) ≡ false → rank_cmp (y, v) (d, g) ≡ Less
after d g y v is = grind (arith, nat_tests)

-- what ranks after b ranks after a
all-later : (a b : ℕ × ℕ) (s : List (ℕ × ℕ)) → rank_cmp a b ≡ Less → AllByRecursion (λ e. rank_cmp b e ≡ Less) s → AllByRecursion (λ e. rank_cmp a e ≡ Less) s
all-later a b [] first all = tt
all-later a b (e ∷ s) first all = (rank_total.trans a b e first all.0, all-later a b s first all.1)

-- a document of a smaller number than all others goes to its place
order_in : (a : ℕ × ℕ) (s : List (ℕ × ℕ)) → AllAbove nat_cmp s a.0 → IsStrictlySortedBy rank_cmp s → IsStrictlySortedBy rank_cmp (ranked_in a s)
unfolding IsStrictlySortedBy
order_in a [] above up = (tt, tt)
order_in a (b ∷ s) above up =
    elim (ranks_before a b) as (λ t. ranks_before a b ≡ t → IsStrictlySortedBy rank_cmp (cond t (a ∷ b ∷ s) (b ∷ ranked_in a s))) [
      | true ↦ λ is. let first = before a.0 a.1 b.0 b.1 is (lt_from_less a.0 b.0 above.0) in ((first, all-later a b s first up.0), up)
      | false ↦ λ is. (all-ranked_in (λ e. rank_cmp b e ≡ Less) a s (after a.0 a.1 b.0 b.1 is) up.0, order_in a s above.1 up.1)
    ] refl

pub ranked_order : (m : List (ℕ × ℕ)) → IsIncreasing nat_cmp m → IsStrictlySortedBy rank_cmp (ranked m)
unfolding IsStrictlySortedBy
ranked_order [] rises = tt
ranked_order (a ∷ m) rises = order_in a (ranked m) (all-ranked (λ e. nat_cmp a.0 e.0 ≡ Less) m rises.0) (ranked_order m rises.1)

same_in : (a : ℕ × ℕ) (s : List (ℕ × ℕ)) → IsPermutation (a ∷ s) (ranked_in a s)
same_in a [] = IsPermutation-refl (a ∷ [])
same_in a (b ∷ s) =
    elim (ranks_before a b) as (λ t. IsPermutation (a ∷ b ∷ s) (cond t (a ∷ b ∷ s) (b ∷ ranked_in a s))) [
      | true ↦ IsPermutation-refl (a ∷ b ∷ s)
      | false ↦ IsPermutation-trans (a ∷ b ∷ s) (b ∷ a ∷ s) (b ∷ ranked_in a s) (IsPermutation-middle (a ∷ []) b s) (IsPermutation-cons b (a ∷ s) (ranked_in a s) (same_in a s))
    ]

ranked_same : (m : List (ℕ × ℕ)) → IsPermutation m (ranked m)
ranked_same [] = IsPermutation-refl []
ranked_same (a ∷ m) = IsPermutation-trans (a ∷ m) (a ∷ ranked m) (ranked_in a (ranked m)) (IsPermutation-cons a m (ranked m) (ranked_same m)) (same_in a (ranked m))

pub top_ranked : (m : List (ℕ × ℕ)) (k : ℕ) (hits : List Hit) → IsIncreasing nat_cmp m → hits ≡ hits_of (take k (ranked m)) → AreTop m k hits
top_ranked m k hits rises is = record { ranking = ranked m; by_rank = record { same = ranked_same m; order = ranked_order m rises }; first = is }
