-- Lists whose elements are told apart by keys that rise.
use Rattle.std.proofs.Common.{◌≡◌, ◌≢◌, ◌==◌, ◌∙◌, ℕ, zero, suc, ◌<◌, ◌≤◌, ◌+◌, Bool, true, false, cond, List, [], ◌∷◌, length, get_or, map, filter, take, refl, sym, ap, subst, inl, inr, arith, eq-eqb}
use Rattle.std.specs.Prelude.{All, sum_by, nat_lt, ◌⊎◌, Option, None, Some}
use Rattle.std.specs.Option.{MatchOption}
use Rattle.std.specs.List.{AllPairs, AllWithin}
use Rattle.std.specs.List.Sorted.{IsPermutation, IsNonDecreasingBy, IsPartitionedBy}
use Rattle.std.proofs.lemmas.Bool.{cases_Bool, ne_eqb, lt-ltb, le-ltb, eqb-true, ltb-true, ltb-false}
use Rattle.std.proofs.lemmas.List.{length-map, get_or-map, nil_from_length}
use Rattle.std.proofs.lemmas.List.Sums.{sum_by-cons}
use Rattle.std.proofs.lemmas.List.Elements.{All-cons, All-nil, All-map, All-filter, filter_passes}
use Rattle.std.proofs.lemmas.List.Sorted.{All-permutation, length_permutation, sum_by-IsPermutation, IsPermutation-sym, IsPermutation-trans}
use Rattle.serve_text.proofs.Orders.{filter_yes, filter_no, filter_none, same_of_each, side}
use Rattle.serve_text.proofs.Keys.{pairs_nil, pairs_cons, pairs_head, pairs_tail}

module _ {X : Type 0} where
  -- two tests one after another
  pub filter_twice : (p q : X → Bool) (xs : List X) → filter p (filter q xs) ≡ filter q (filter p xs)
  filter_twice p q [] = refl
  filter_twice p q (x ∷ xs) =
      elim (cases_Bool (p x)) [
        | inl t ↦ elim (cases_Bool (q x)) [
          | inl u ↦ ap (filter p) (filter_yes q x xs u) ∙ filter_yes p x (filter q xs) t ∙ ap (λ (l : List X). x ∷ l) (filter_twice p q xs) ∙ sym (filter_yes q x (filter p xs) u) ∙ ap (filter q) (sym (filter_yes p x xs t))
          | inr v ↦ ap (filter p) (filter_no q x xs v) ∙ filter_twice p q xs ∙ sym (filter_no q x (filter p xs) v) ∙ ap (filter q) (sym (filter_yes p x xs t))
        ]
        | inr f ↦ elim (cases_Bool (q x)) [
          | inl u ↦ ap (filter p) (filter_yes q x xs u) ∙ filter_no p x (filter q xs) f ∙ filter_twice p q xs ∙ ap (filter q) (sym (filter_no p x xs f))
          | inr v ↦ ap (filter p) (filter_no q x xs v) ∙ filter_twice p q xs ∙ ap (filter q) (sym (filter_no p x xs f))
        ]
      ]

  abbrev one_where : (X → Bool) → X → ℕ
  one_where p x = cond (p x) 1 0

  count_is : (p : X → Bool) (xs : List X) → length (filter p xs) ≡ sum_by (one_where p) xs
  count_is p [] = refl
  count_is p (x ∷ xs) =
      elim (cases_Bool (p x)) [
        | inl t ↦
            let rest = count_is p xs in
            let one : one_where p x ≡ 1 = rw t refl in
            ap length (filter_yes p x xs t) ∙ (let z : suc (length (filter p xs)) ≡ one_where p x + sum_by (one_where p) xs = omega (arith, rest, one) in z) ∙ sym (sum_by-cons (one_where p) x xs)
        | inr f ↦
            let rest = count_is p xs in
            let none : one_where p x ≡ 0 = rw f refl in
            ap length (filter_no p x xs f) ∙ (let z : length (filter p xs) ≡ one_where p x + sum_by (one_where p) xs = omega (arith, rest, none) in z) ∙ sym (sum_by-cons (one_where p) x xs)
      ]

  -- as many elements pass a test, in any order
  pub same_count : (p : X → Bool) (xs ys : List X) → IsPermutation xs ys → length (filter p ys) ≡ length (filter p xs)
  same_count p xs ys same = count_is p ys ∙ sum_by-IsPermutation (one_where p) xs ys same ∙ sym (count_is p xs)

  pub fewer : (p : X → Bool) (xs : List X) → length (filter p xs) ≤ length xs
  fewer p [] = omega arith
  fewer p (x ∷ xs) =
      elim (cases_Bool (p x)) [
        | inl t ↦ let z = ap length (filter_yes p x xs t) in omega (arith, z, fewer p xs)
        | inr f ↦ let z = ap length (filter_no p x xs f) in omega (arith, z, fewer p xs)
      ]

  -- none passes
  pub none_passes : (p : X → Bool) (xs : List X) → length (filter p xs) ≡ 0 → All (λ x. p x ≡ false) xs
  none_passes p [] count = All-nil (λ x. p x ≡ false)
  none_passes p (x ∷ xs) count =
      elim (cases_Bool (p x)) [
        | inl t ↦ let z : length (filter p (x ∷ xs)) ≡ suc (length (filter p xs)) = ap length (filter_yes p x xs t) in absurd (omega (arith, z, count))
        | inr f ↦ All-cons (λ x. p x ≡ false) x xs f (none_passes p xs (sym (ap length (filter_no p x xs f)) ∙ count))
      ]

  -- the numbers along a list that never fall, as pairs
  pub pairs_from_rising : (n : X → ℕ) (xs : List X) → IsNonDecreasingBy n xs → AllPairs (λ (x y : X). n x ≤ n y) xs
  pairs_from_rising n xs up i j d h inside = up i j d (omega (arith, h)) inside

  rising_at : (n : X → ℕ) (xs : List X) → AllPairs (λ (x y : X). n x ≤ n y) xs → (i j : ℕ) (d : X) → i ≤ j → j < length xs → (i < j) ⊎ (j ≤ i) → n (get_or xs i d) ≤ n (get_or xs j d)
  rising_at n xs all i j d h inside (inl p) = all i j d p inside
  rising_at n xs all i j d h inside (inr p) = subst (λ (k : ℕ). n (get_or xs i d) ≤ n (get_or xs k d)) (let q : i ≡ j = omega (arith, h, p) in q) (omega arith)

  pub rising_from_pairs : (n : X → ℕ) (xs : List X) → AllPairs (λ (x y : X). n x ≤ n y) xs → IsNonDecreasingBy n xs
  rising_from_pairs n xs all = λ i j d h inside. rising_at n xs all i j d h inside (side i j)

  pub pairs_filter : (R : X → X → Type 0) (p : X → Bool) (xs : List X) → AllPairs R xs → AllPairs R (filter p xs)
  pairs_filter R p [] all = all
  pairs_filter R p (x ∷ xs) all =
      elim (cases_Bool (p x)) [
        | inl t ↦ subst (AllPairs R) (sym (filter_yes p x xs t)) (pairs_cons R x (filter p xs) (All-filter p (λ y. R x y) xs (pairs_head R x xs all)) (pairs_filter R p xs (pairs_tail R x xs all)))
        | inr f ↦ subst (AllPairs R) (sym (filter_no p x xs f)) (pairs_filter R p xs (pairs_tail R x xs all))
      ]

  -- numbers that never fall are below a bound first
  pub rising_front : (n : X → ℕ) (k : ℕ) (xs : List X) → AllPairs (λ (x y : X). n x ≤ n y) xs → take (length (filter (λ x. nat_lt (n x) k) xs)) xs ≡ filter (λ x. nat_lt (n x) k) xs
  rising_front n k [] all = refl
  rising_front n k (x ∷ xs) all =
      elim (side (n x) k) [
        | inl h ↦
            let yes : filter (λ y. nat_lt (n y) k) (x ∷ xs) ≡ x ∷ filter (λ y. nat_lt (n y) k) xs = filter_yes (λ y. nat_lt (n y) k) x xs (lt-ltb _ _ h) in
            ap (λ (l : List X). take (length l) (x ∷ xs)) yes ∙ ap (λ (l : List X). x ∷ l) (rising_front n k xs (pairs_tail (λ (y z : X). n y ≤ n z) x xs all)) ∙ sym yes
        | inr h ↦
            let head = pairs_head (λ (y z : X). n y ≤ n z) x xs all in
            let none : filter (λ y. nat_lt (n y) k) (x ∷ xs) ≡ [] =
            filter_none (λ y. nat_lt (n y) k) (x ∷ xs) (All-cons (λ y. nat_lt (n y) k ≡ false) x xs (le-ltb _ _ h) (λ i d inside. le-ltb _ _ (omega (arith, h, head i d inside)))) in
            ap (λ (l : List X). take (length l) (x ∷ xs)) none ∙ sym none
      ]

module _ {X : Type 0} where
  module _ (key : X → ℕ) where
    abbrev pub Rise : List X → Type 0
    Rise xs = AllPairs (λ (x y : X). key x < key y) xs

    -- the element is the only one of its key
    abbrev pub IsOnly : List X → X → Type 0
    IsOnly xs x = filter (λ y. key y == key x) xs ≡ x ∷ []

    pub each_only : (xs : List X) → Rise xs → All (IsOnly xs) xs
    each_only [] rise = All-nil (IsOnly [])
    each_only (x ∷ xs) rise =
        let head = pairs_head (λ (a b : X). key a < key b) x xs rise in
        let rest = each_only xs (pairs_tail (λ (a b : X). key a < key b) x xs rise) in
        let none : filter (λ y. key y == key x) xs ≡ [] = filter_none (λ y. key y == key x) xs (λ k d h. ne_eqb _ _ (λ same. omega (arith, head k d h, same))) in
        let own : IsOnly (x ∷ xs) x = filter_yes (λ y. key y == key x) x xs (eq-eqb (key x) (key x) refl) ∙ ap (λ (l : List X). x ∷ l) none in
        All-cons (IsOnly (x ∷ xs)) x xs own (λ k d h. filter_no (λ y. key y == key (get_or xs k d)) x xs (ne_eqb _ _ (λ same. omega (arith, head k d h, same))) ∙ rest k d h)

    pub same_only : (xs : List X) (x y : X) → IsOnly xs x → IsOnly xs y → key x ≡ key y → x ≡ y
    same_only xs x y p q e =
        let same : x ∷ [] ≡ y ∷ [] = sym p ∙ ap (λ (n : ℕ). filter (λ z. key z == n) xs) e ∙ q in
        cc

    same_at : (xs ys found : List X) (c : ℕ) → filter (λ x. key x == c) ys ≡ found → All (IsOnly xs) found → All (λ x. (key x == c) ≡ true) found
        → length found ≡ length (filter (λ x. key x == c) xs) → filter (λ x. key x == c) xs ≡ found
    same_at xs ys [] c is only passes count = nil_from_length (filter (λ x. key x == c) xs) (sym count)
    same_at xs ys (y ∷ rest) c is only passes count =
        let own : filter (λ z. key z == key y) xs ≡ y ∷ [] = only 0 y (omega arith) in
        let here : key y ≡ c = eqb-true (key y) c (passes 0 y (omega arith)) in
        let found : filter (λ z. key z == c) xs ≡ y ∷ [] = ap (λ (n : ℕ). filter (λ z. key z == n) xs) (sym here) ∙ own in
        let one : length (filter (λ z. key z == c) xs) ≡ 1 = ap length found in
        let none : rest ≡ [] = nil_from_length rest (omega (arith, count, one)) in
        found ∙ ap (λ (l : List X). y ∷ l) (sym none)

    -- lists of such elements, as many of each key
    pub same_each : (xs ys : List X) → All (IsOnly xs) ys → ((c : ℕ) → length (filter (λ x. key x == c) ys) ≡ length (filter (λ x. key x == c) xs))
        → (c : ℕ) → filter (λ x. key x == c) xs ≡ filter (λ x. key x == c) ys
    same_each xs ys only counts c =
        same_at xs ys (filter (λ x. key x == c) ys) c refl (All-filter (λ x. key x == c) (IsOnly xs) ys only) (filter_passes (λ x. key x == c) ys) (counts c)

    pub each_in_order : (xs ys : List X) → Rise xs → IsPermutation xs ys → (c : ℕ) → filter (λ x. key x == c) xs ≡ filter (λ x. key x == c) ys
    each_in_order xs ys rise same = same_each xs ys (All-permutation (IsOnly xs) xs ys same (each_only xs rise)) (λ c. same_count (λ x. key x == c) xs ys same)

    count_key : (xs : List X) (c : ℕ) → length (filter (λ x. key x == c) xs) ≡ length (filter (λ n. n == c) (map key xs))
    count_key [] c = refl
    count_key (x ∷ xs) c =
        elim (cases_Bool (key x == c)) [
          | inl t ↦ ap length (filter_yes (λ y. key y == c) x xs t) ∙ ap (λ (n : ℕ). suc n) (count_key xs c) ∙ sym (ap length (filter_yes (λ n. n == c) (key x) (map key xs) t))
          | inr f ↦ ap length (filter_no (λ y. key y == c) x xs f) ∙ count_key xs c ∙ sym (ap length (filter_no (λ n. n == c) (key x) (map key xs) f))
        ]

    -- elements of these whose keys are the same in another order
    pub keyed_permutation : (xs ys : List X) → All (IsOnly xs) ys → IsPermutation (map key xs) (map key ys) → IsPermutation xs ys
    keyed_permutation xs ys only keys =
        same_of_each key xs ys (same_each xs ys only (λ c. count_key ys c ∙ same_count (λ n. n == c) (map key xs) (map key ys) keys ∙ sym (count_key xs c)))

    -- what passes a test, in another order
    pub filter_permutation : (p : X → Bool) (xs ys : List X) → Rise xs → IsPermutation xs ys → IsPermutation (filter p xs) (filter p ys)
    filter_permutation p xs ys rise same =
        same_of_each key (filter p xs) (filter p ys) (λ c.
        filter_twice (λ x. key x == c) p xs ∙ ap (filter p) (each_in_order xs ys rise same c) ∙ sym (filter_twice (λ x. key x == c) p ys))

    but_first : (x : X) (xs ys : List X) → Rise (x ∷ xs) → IsPermutation (x ∷ xs) (x ∷ ys) → (c : ℕ) → filter (λ z. key z == c) xs ≡ filter (λ z. key z == c) ys
    but_first x xs ys rise same c =
        elim (cases_Bool (key x == c)) [
          | inl t ↦
              let whole : x ∷ filter (λ z. key z == c) xs ≡ x ∷ filter (λ z. key z == c) ys =
              sym (filter_yes (λ z. key z == c) x xs t) ∙ each_in_order (x ∷ xs) (x ∷ ys) rise same c ∙ filter_yes (λ z. key z == c) x ys t in
              cc
          | inr f ↦ sym (filter_no (λ z. key z == c) x xs f) ∙ each_in_order (x ∷ xs) (x ∷ ys) rise same c ∙ filter_no (λ z. key z == c) x ys f
        ]

    -- an order in which the keys never fall is the one in which they rise
    pub sorted_same : (xs ys : List X) → Rise xs → AllPairs (λ (x y : X). key x ≤ key y) ys → IsPermutation xs ys → xs ≡ ys
    sorted_same [] [] rise up same = refl
    sorted_same [] (y ∷ ys) rise up same = absurd (let z = length_permutation [] (y ∷ ys) same in omega (arith, z))
    sorted_same (x ∷ xs) [] rise up same = absurd (let z = length_permutation (x ∷ xs) [] same in omega (arith, z))
    sorted_same (x ∷ xs) (y ∷ ys) rise up same =
        let head = pairs_head (λ (a b : X). key a < key b) x xs rise in
        let low : All (λ z. key x ≤ key z) (x ∷ xs) = All-cons (λ z. key x ≤ key z) x xs (omega arith) (λ k d h. omega (arith, head k d h)) in
        let high : All (λ z. key y ≤ key z) (y ∷ ys) = All-cons (λ z. key y ≤ key z) y ys (omega arith) (pairs_head (λ (a b : X). key a ≤ key b) y ys up) in
        let at_least : key x ≤ key y = All-permutation (λ z. key x ≤ key z) (x ∷ xs) (y ∷ ys) same low 0 y (omega arith) in
        let at_most : key y ≤ key x = All-permutation (λ z. key y ≤ key z) (y ∷ ys) (x ∷ xs) (IsPermutation-sym (x ∷ xs) (y ∷ ys) same) high 0 x (omega arith) in
        let only = each_only (x ∷ xs) rise in
        let keys : key x ≡ key y = omega (arith, at_least, at_most) in
        let first : x ≡ y = same_only (x ∷ xs) x y (only 0 x (omega arith)) (All-permutation (IsOnly (x ∷ xs)) (x ∷ xs) (y ∷ ys) same only 0 y (omega arith)) keys in
        let again : IsPermutation (x ∷ xs) (x ∷ ys) = subst (λ (z : X). IsPermutation (x ∷ xs) (z ∷ ys)) (sym first) same in
        let later : IsPermutation xs ys = same_of_each key xs ys (but_first x xs ys rise again) in
        let rest = sorted_same xs ys (pairs_tail (λ (a b : X). key a < key b) x xs rise) (pairs_tail (λ (a b : X). key a ≤ key b) y ys up) later in
        λ i. first i ∷ rest i

    pub risen : (xs : List X) → Rise xs → AllPairs (λ (x y : X). key x ≤ key y) xs
    risen xs rise i j d h inside = let z = rise i j d h inside in omega (arith, z)

    -- no element has a key that a search by halves does not find
    pub absent_from : (xs : List X) (n at : ℕ) → Rise xs → AllWithin (λ x. nat_lt (key x) n ≡ true) xs 0 at → AllWithin (λ x. nat_lt (key x) n ≡ false) xs at (length xs)
        → ((d : X) → at < length xs → key (get_or xs at d) ≢ n) → All (λ x. key x ≢ n) xs
    absent_from xs n at rise low high other k d h same =
        elim (side k at) [
          | inl p ↦ let z = ltb-true (key (get_or xs k d)) n (low k d (omega arith) p) in omega (arith, z, same)
          | inr p ↦ elim (side at k) [
            | inl q ↦
                let z = rise at k d q h in
                let w = ltb-false (key (get_or xs at d)) n (high at d (omega arith) (omega (arith, p, h))) in
                omega (arith, z, w, same)
            | inr q ↦ other d (omega (arith, p, h)) (subst (λ (i : ℕ). key (get_or xs i d) ≡ n) (let z : k ≡ at = omega (arith, p, q) in z) same)
          ]
        ]

    pub below_first : (xs : List X) (n : ℕ) → Rise xs → IsPartitionedBy (λ x. nat_lt (key x) n) xs
    below_first xs n rise i j d h inside passes =
        let z = ltb-true (key (get_or xs j d)) n passes in
        let w = rising_from_pairs key xs (risen xs rise) i j d h inside in
        lt-ltb _ _ (omega (arith, z, w))

    -- the same for what passes a test
    pub sorted_same_where : (p : X → Bool) (xs ys : List X) → Rise xs → IsPermutation xs ys → AllPairs (λ (x y : X). key x ≤ key y) (filter p ys) → filter p xs ≡ filter p ys
    sorted_same_where p xs ys rise same up =
        sorted_same (filter p xs) (filter p ys) (pairs_filter (λ (x y : X). key x < key y) p xs rise) up (filter_permutation p xs ys rise same)

-- numbers of the images
pub rising_map : {X Y : Type 0} (f : X → Y) (n : Y → ℕ) (xs : List X) → IsNonDecreasingBy n (map f xs) → IsNonDecreasingBy (λ x. n (f x)) xs
rising_map f n xs up i j d h inside =
    let long : length (map f xs) ≡ length xs = length-map xs f in
    let z : n (get_or (map f xs) i (f d)) ≤ n (get_or (map f xs) j (f d)) = up i j (f d) h (omega (arith, inside, long)) in
    let first = get_or-map f xs i d (f d) (omega (arith, h, inside)) in
    let second = get_or-map f xs j d (f d) inside in
    subst (λ y. n y ≤ n (f (get_or xs j d))) first (subst (λ y. n (get_or (map f xs) i (f d)) ≤ n y) second z)

pub filter_map : {X Y : Type 0} (f : X → Y) (p : Y → Bool) (xs : List X) → filter p (map f xs) ≡ map f (filter (λ x. p (f x)) xs)
filter_map f p [] = refl
filter_map f p (x ∷ xs) =
    elim (cases_Bool (p (f x))) [
      | inl t ↦ filter_yes p (f x) (map f xs) t ∙ ap (λ l. f x ∷ l) (filter_map f p xs) ∙ ap (map f) (sym (filter_yes (λ y. p (f y)) x xs t))
      | inr e ↦ filter_no p (f x) (map f xs) e ∙ filter_map f p xs ∙ ap (map f) (sym (filter_no (λ y. p (f y)) x xs e))
    ]

pub take_map : {X Y : Type 0} (f : X → Y) (n : ℕ) (xs : List X) → take n (map f xs) ≡ map f (take n xs)
take_map f zero xs = refl
take_map f (suc n) [] = refl
take_map f (suc n) (x ∷ xs) = ap (λ l. f x ∷ l) (take_map f n xs)

pub all_unmap : {X Y : Type 0} (f : X → Y) (P : Y → Type 0) (xs : List X) → All P (map f xs) → All (λ x. P (f x)) xs
all_unmap f P xs all k d h = subst P (get_or-map f xs k d (f d) h) (all k (f d) (omega (arith, h, length-map xs f)))

pub pairs_map : {X Y : Type 0} (f : X → Y) (R : Y → Y → Type 0) (xs : List X) → AllPairs (λ (x y : X). R (f x) (f y)) xs → AllPairs R (map f xs)
pairs_map f R [] all = pairs_nil R
pairs_map f R (x ∷ xs) all =
    pairs_cons R (f x) (map f xs) (All-map (λ y. R (f x) y) f xs (pairs_head (λ a b. R (f a) (f b)) x xs all)) (pairs_map f R xs (pairs_tail (λ a b. R (f a) (f b)) x xs all))

-- a number that is not there
pub missing : (ns ms : List ℕ) (i d : ℕ) → i < length ms → All (λ n. n ≢ get_or ms i d) ns → ¬ (IsPermutation ns ms)
missing ns ms i d inside none same = All-permutation (λ n. n ≢ get_or ms i d) ns ms same none i d inside refl

-- what a comparison with the numbers in order tells
pub tells_permutation : (ns ms sorted : List ℕ) (r : Bool) → Rise (λ n. n) ns → IsPermutation ms sorted → IsNonDecreasingBy (λ n. n) sorted → (r ≡ true → ns ≡ sorted) × (ns ≡ sorted → r ≡ true)
    → (r ≡ true → IsPermutation ns ms) × (IsPermutation ns ms → r ≡ true)
tells_permutation ns ms sorted r rise perm up tells = (
  λ yes. subst (λ (l : List ℕ). IsPermutation l ms) (sym (tells.0 yes)) (IsPermutation-sym ms sorted perm),
  λ same. tells.1 (sorted_same (λ n. n) ns sorted rise (pairs_from_rising (λ n. n) sorted up) (IsPermutation-trans ns ms sorted same perm)),
)

pub map_rising : {X Y : Type 0} (f : X → Y) (n : Y → ℕ) (xs : List X) → IsNonDecreasingBy (λ x. n (f x)) xs → IsNonDecreasingBy n (map f xs)
map_rising f n xs up = rising_from_pairs n (map f xs) (pairs_map f (λ a b. n a ≤ n b) xs (pairs_from_rising (λ x. n (f x)) xs up))

-- what is found is more than was told
pub found_more : {X : Type 0} (N : Type 0) (P R : X → Type 0) → ((x : X) → P x → R x) → (o : Option X) → MatchOption o N P → MatchOption o N R
found_more N P R more None none = none
found_more N P R more (Some x) found = more x found
