-- Lists in two orders whose elements are told apart by their keys.
use Rattle.std.proofs.Common.{◌≡◌, ◌==◌, ◌∙◌, ℕ, zero, suc, ◌<◌, ◌≤◌, ◌+◌, List, [], ◌∷◌, length, get_or, map, filter, refl, sym, ap, arith, eq-eqb}
use Rattle.std.specs.Prelude.{All}
use Rattle.std.specs.List.{AllPairs}
use Rattle.std.specs.List.Sorted.{IsPermutation}
use Rattle.std.proofs.lemmas.Bool.{ne_eqb}
use Rattle.std.proofs.lemmas.List.Elements.{All-cons, All-nil}
use Rattle.std.proofs.lemmas.List.Sorted.{All-permutation}
use Rattle.serve_text.proofs.Orders.{filter_yes, filter_no, filter_none}

module _ {X : Type 0} where
  pub pairs_nil : (R : X → X → Type 0) → AllPairs R []
  pairs_nil R i j d h inside = absurd (omega (arith, inside))

  pub pairs_cons : (R : X → X → Type 0) (x : X) (xs : List X) → All (λ y. R x y) xs → AllPairs R xs → AllPairs R (x ∷ xs)
  pairs_cons R x xs first rest zero zero d h inside = absurd (omega (arith, h))
  pairs_cons R x xs first rest zero (suc j) d h inside = first j d (omega (arith, inside))
  pairs_cons R x xs first rest (suc i) zero d h inside = absurd (omega (arith, h))
  pairs_cons R x xs first rest (suc i) (suc j) d h inside = rest i j d (omega (arith, h)) (omega (arith, inside))

  pub pairs_head : (R : X → X → Type 0) (x : X) (xs : List X) → AllPairs R (x ∷ xs) → All (λ y. R x y) xs
  pairs_head R x xs all k d h = all 0 (suc k) d (omega arith) (omega (arith, h))

  pub pairs_tail : (R : X → X → Type 0) (x : X) (xs : List X) → AllPairs R (x ∷ xs) → AllPairs R xs
  pairs_tail R x xs all i j d h inside = all (suc i) (suc j) d (omega (arith, h)) (omega (arith, inside))

  module _ (key : X → ℕ) where
    abbrev pub Rise : List X → Type 0
    Rise xs = AllPairs (λ (x y : X). key x < key y) xs

    -- rising keys below a number are at most as many
    pub few_keys : (low high : ℕ) (xs : List X) → low ≤ high → Rise xs → All (λ x. low ≤ key x) xs → All (λ x. key x < high) xs → low + length xs ≤ high
    few_keys low high [] h rise above below = omega (arith, h)
    few_keys low high (x ∷ xs) h rise above below =
        let first : key x < high = below 0 x (omega arith) in
        let least : low ≤ key x = above 0 x (omega arith) in
        let head = pairs_head (λ (a b : X). key a < key b) x xs rise in
        let rest = few_keys (key x + 1) high xs (omega (arith, first)) (pairs_tail (λ (a b : X). key a < key b) x xs rise)
        (λ k d inside. omega (arith, head k d inside)) (λ k d inside. below (suc k) d (omega (arith, inside))) in
        omega (arith, rest, least)

    -- the element is the only one of its key
    abbrev IsOnly : List X → X → Type 0
    IsOnly xs x = filter (λ y. key y == key x) xs ≡ x ∷ []

    each_only : (xs : List X) → Rise xs → All (IsOnly xs) xs
    each_only [] rise = All-nil (IsOnly [])
    each_only (x ∷ xs) rise =
        let head = pairs_head (λ (a b : X). key a < key b) x xs rise in
        let rest = each_only xs (pairs_tail (λ (a b : X). key a < key b) x xs rise) in
        let none : filter (λ y. key y == key x) xs ≡ [] = filter_none (λ y. key y == key x) xs (λ k d h. ne_eqb _ _ (λ same. omega (arith, head k d h, same))) in
        let own : IsOnly (x ∷ xs) x = filter_yes (λ y. key y == key x) x xs (eq-eqb (key x) (key x) refl) ∙ ap (λ (l : List X). x ∷ l) none in
        All-cons (IsOnly (x ∷ xs)) x xs own (λ k d h. filter_no (λ y. key y == key (get_or xs k d)) x xs (ne_eqb _ _ (λ same. omega (arith, head k d h, same))) ∙ rest k d h)

    same_only : (xs : List X) (x y : X) → IsOnly xs x → IsOnly xs y → key x ≡ key y → x ≡ y
    same_only xs x y p q e =
        let same : x ∷ [] ≡ y ∷ [] = sym p ∙ ap (λ (n : ℕ). filter (λ z. key z == n) xs) e ∙ q in
        cc

    same_by_keys : (xs ys zs : List X) → All (IsOnly xs) ys → All (IsOnly xs) zs → map key ys ≡ map key zs → ys ≡ zs
    same_by_keys xs [] [] p q e = refl
    same_by_keys xs [] (z ∷ zs) p q e = absurd (let whole : [] ≡ key z ∷ map key zs = e in cc)
    same_by_keys xs (y ∷ ys) [] p q e = absurd (let whole : key y ∷ map key ys ≡ [] = e in cc)
    same_by_keys xs (y ∷ ys) (z ∷ zs) p q e =
        let whole : key y ∷ map key ys ≡ key z ∷ map key zs = e in
        let keys : key y ≡ key z = cc in
        let later : map key ys ≡ map key zs = cc in
        let first = same_only xs y z (p 0 y (omega arith)) (q 0 z (omega arith)) keys in
        let rest = same_by_keys xs ys zs (λ k d h. p (suc k) d (omega (arith, h))) (λ k d h. q (suc k) d (omega (arith, h))) later in
        λ i. first i ∷ rest i

    -- two orders of the same elements with rising keys are one, if they have the same keys in order
    pub same_order : (xs ys zs : List X) → Rise xs → IsPermutation xs ys → IsPermutation xs zs → map key ys ≡ map key zs → ys ≡ zs
    same_order xs ys zs rise p q e =
        same_by_keys xs ys zs (All-permutation (IsOnly xs) xs ys p (each_only xs rise)) (All-permutation (IsOnly xs) xs zs q (each_only xs rise)) e
