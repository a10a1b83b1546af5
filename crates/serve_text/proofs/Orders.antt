-- Lists that have the same elements of each key in the same order.
use Rattle.std.proofs.Common.{◌≡◌, ◌==◌, ℕ, zero, suc, ◌<◌, ◌≤◌, ◌-◌, Bool, true, false, List, [], ◌∷◌, ◌++◌, length, filter, get_or, inl, inr, refl, sym, ap, ◌∙◌, subst, arith, eq-eqb}
use Rattle.std.specs.Prelude.{All, ◌⊎◌}
use Rattle.std.specs.List.Sorted.{IsPermutation, IsNonDecreasingBy}
use Rattle.std.proofs.lemmas.Bool.{cases_Bool}
use Rattle.std.proofs.lemmas.Bool.Decides.{eqb_tells}
use Rattle.std.proofs.lemmas.List.{get_or-append_right, length-append}
use mathlib.Core.Logic.{dite}
use native.Mathlib.Decide.{dec_lt}
use Rattle.std.proofs.lemmas.List.Elements.{filter-append, All-cons, All-tail}
use Rattle.std.proofs.lemmas.List.Sorted.{IsPermutation-refl, IsPermutation-sym, IsPermutation-cons, IsPermutation-trans, IsPermutation-middle}

pub side : (i n : ℕ) → (i < n) ⊎ (n ≤ i)
side i n = dite (dec_lt i n) (λ h. inl h) (λ h. inr (omega arith))

module _ {X : Type 0} where
  pub filter_yes : (p : X → Bool) (x : X) (xs : List X) → p x ≡ true → filter p (x ∷ xs) ≡ x ∷ filter p xs
  filter_yes p x xs e = rw e refl

  pub filter_no : (p : X → Bool) (x : X) (xs : List X) → p x ≡ false → filter p (x ∷ xs) ≡ filter p xs
  filter_no p x xs e = rw e refl

  pub filter_all : (p : X → Bool) (xs : List X) → All (λ x. p x ≡ true) xs → filter p xs ≡ xs
  filter_all p [] all = refl
  filter_all p (x ∷ xs) all =
      filter_yes p x xs (all 0 x (omega arith)) ∙ ap (λ (l : List X). x ∷ l) (filter_all p xs (λ k d h. all (suc k) d (omega (arith, h))))

  pub filter_none : (p : X → Bool) (xs : List X) → All (λ x. p x ≡ false) xs → filter p xs ≡ []
  filter_none p [] all = refl
  filter_none p (x ∷ xs) all =
      filter_no p x xs (all 0 x (omega arith)) ∙ filter_none p xs (λ k d h. all (suc k) d (omega (arith, h)))

  -- the first element that passes a test, and what passes after it
  record IsFirst (p : X → Bool) (x : X) (rest ys : List X) : Type 0 where
    front : List X
    back : List X
    is : ys ≡ front ++ x ∷ back
    none : filter p front ≡ []
    after : filter p back ≡ rest

  heads : (x y : X) (xs ys : List X) → x ∷ xs ≡ y ∷ ys → x ≡ y
  heads x y xs ys e = cc

  tails : (x y : X) (xs ys : List X) → x ∷ xs ≡ y ∷ ys → xs ≡ ys
  tails x y xs ys e = cc

  first_is : (p : X → Bool) (x : X) (rest ys : List X) → filter p ys ≡ x ∷ rest → IsFirst p x rest ys
  first_is p x rest [] e = absurd (let q : [] ≡ x ∷ rest = e in cc)
  first_is p x rest (y ∷ ys) e =
      elim (cases_Bool (p y)) [
        | inl t ↦
            let q : y ∷ filter p ys ≡ x ∷ rest = sym (filter_yes p y ys t) ∙ e in
            record { front = []; back = ys; is = ap (λ (z : X). z ∷ ys) (heads y x _ _ q); none = refl; after = tails y x _ _ q }
        | inr f ↦
            let w = first_is p x rest ys (sym (filter_no p y ys f) ∙ e) in
            record { front = y ∷ w.front; back = w.back; is = ap (λ (l : List X). y ∷ l) w.is; none = filter_no p y w.front f ∙ w.none; after = w.after }
      ]

  module _ (key : X → ℕ) where
    of_key : ℕ → List X → List X
    of_key c xs = filter (λ x. key x == c) xs

    own_key : (x : X) → (key x == key x) ≡ true
    own_key x = eq-eqb (key x) (key x) refl

    split_at : (c : ℕ) (front back : List X) → filter (λ x. key x == c) (front ++ back) ≡ filter (λ x. key x == c) front ++ filter (λ x. key x == c) back
    split_at c front back = filter-append (λ x. key x == c) front back

    without : (x : X) (xs ys front back : List X) → ((c : ℕ) → filter (λ z. key z == c) (x ∷ xs) ≡ filter (λ z. key z == c) ys)
        → ys ≡ front ++ x ∷ back → filter (λ z. key z == key x) front ≡ [] → filter (λ z. key z == key x) back ≡ filter (λ z. key z == key x) xs
        → (c : ℕ) → filter (λ z. key z == c) xs ≡ filter (λ z. key z == c) (front ++ back)
    without x xs ys front back same is none after c =
        elim (eqb_tells (key x) c) [
          | inl q ↦
              subst (λ (d : ℕ). filter (λ z. key z == d) xs ≡ filter (λ z. key z == d) (front ++ back)) q.1
              (sym after ∙ ap (λ (l : List X). l ++ filter (λ z. key z == key x) back) (sym none) ∙ sym (split_at (key x) front back))
          | inr q ↦
              sym (filter_no (λ z. key z == c) x xs q.0)
              ∙ same c
              ∙ ap (filter (λ z. key z == c)) is
              ∙ split_at c front (x ∷ back)
              ∙ ap (λ (l : List X). filter (λ z. key z == c) front ++ l) (filter_no (λ z. key z == c) x back q.0)
              ∙ sym (split_at c front back)
        ]

    -- then they are the same elements
    pub same_of_each : (xs ys : List X) → ((c : ℕ) → filter (λ x. key x == c) xs ≡ filter (λ x. key x == c) ys) → IsPermutation xs ys
    same_of_each [] [] same = IsPermutation-refl []
    same_of_each [] (y ∷ ys) same = absurd (let q : [] ≡ y ∷ filter (λ x. key x == key y) ys = same (key y) ∙ filter_yes (λ x. key x == key y) y ys (own_key y) in cc)
    same_of_each (x ∷ xs) ys same =
        let w = first_is (λ z. key z == key x) x (filter (λ z. key z == key x) xs) ys (sym (same (key x)) ∙ filter_yes (λ z. key z == key x) x xs (own_key x)) in
        let deeper : IsPermutation xs (w.front ++ w.back) = same_of_each xs (w.front ++ w.back) (without x xs ys w.front w.back same w.is w.none w.after) in
        let back : IsPermutation (x ∷ (w.front ++ w.back)) (w.front ++ x ∷ w.back) = IsPermutation-sym _ _ (IsPermutation-middle w.front x w.back) in
        subst (λ (l : List X). IsPermutation (x ∷ xs) l) (sym w.is)
        (IsPermutation-trans (x ∷ xs) (x ∷ (w.front ++ w.back)) (w.front ++ x ∷ w.back) (IsPermutation-cons x xs (w.front ++ w.back) deeper) back)

  pub front_at : (xs ys : List X) (i : ℕ) (d : X) → i < length xs → get_or (xs ++ ys) i d ≡ get_or xs i d
  front_at [] ys i d h = absurd (omega arith)
  front_at (x ∷ xs) ys zero d h = refl
  front_at (x ∷ xs) ys (suc i) d h = front_at xs ys i d (omega (arith, h))

  pub back_at : (xs ys : List X) (i : ℕ) (d : X) → length xs ≤ i → get_or (xs ++ ys) i d ≡ get_or ys (i - length xs) d
  back_at xs ys i d h = get_or-append_right xs ys (length xs) i d refl h

  rise_along : (n : X → ℕ) (xs ys : List X) → IsNonDecreasingBy n xs → IsNonDecreasingBy n ys → (m : ℕ) → All (λ x. n x ≤ m) xs → All (λ y. m ≤ n y) ys
      → (i j : ℕ) (d : X) → i ≤ j → j < length (xs ++ ys) → (i < length xs) ⊎ (length xs ≤ i) → (j < length xs) ⊎ (length xs ≤ j)
      → n (get_or (xs ++ ys) i d) ≤ n (get_or (xs ++ ys) j d)
  rise_along n xs ys up more m low high i j d h inside (inl p) (inl q) =
      subst (λ (v : X). n v ≤ n (get_or (xs ++ ys) j d)) (sym (front_at xs ys i d p)) (subst (λ (v : X). n (get_or xs i d) ≤ n v) (sym (front_at xs ys j d q)) (up i j d h q))
  rise_along n xs ys up more m low high i j d h inside (inl p) (inr q) =
      let a = low i d p in
      let b = high (j - length xs) d (omega (arith, inside, q, length-append xs ys)) in
      subst (λ (v : X). n v ≤ n (get_or (xs ++ ys) j d)) (sym (front_at xs ys i d p)) (subst (λ (v : X). n (get_or xs i d) ≤ n v) (sym (back_at xs ys j d q)) (omega (arith, a, b)))
  rise_along n xs ys up more m low high i j d h inside (inr p) (inl q) = absurd (omega (arith, h, p, q))
  rise_along n xs ys up more m low high i j d h inside (inr p) (inr q) =
      subst (λ (v : X). n v ≤ n (get_or (xs ++ ys) j d)) (sym (back_at xs ys i d p))
      (subst (λ (v : X). n (get_or ys (i - length xs) d) ≤ n v) (sym (back_at xs ys j d q))
      (more (i - length xs) (j - length xs) d (omega (arith, h, p, q)) (omega (arith, inside, q, length-append xs ys))))

  -- numbers that do not fall, and after them others that are at least as great
  pub rises_append : (n : X → ℕ) (xs ys : List X) → IsNonDecreasingBy n xs → IsNonDecreasingBy n ys → (m : ℕ) → All (λ x. n x ≤ m) xs → All (λ y. m ≤ n y) ys → IsNonDecreasingBy n (xs ++ ys)
  rises_append n xs ys up more m low high = λ i j d h inside. rise_along n xs ys up more m low high i j d h inside (side i (length xs)) (side j (length xs))

  -- what holds of the elements of each key holds of all
  pub all_of_each : (P : X → Type 0) (key : X → ℕ) (xs : List X) → ((c : ℕ) → All P (filter (λ x. key x == c) xs)) → All P xs
  all_of_each P key [] each = λ k d h. absurd (omega (arith, h))
  all_of_each P key (x ∷ xs) each =
      let own : All P (x ∷ filter (λ z. key z == key x) xs) = subst (All P) (filter_yes (λ z. key z == key x) x xs (eq-eqb (key x) (key x) refl)) (each (key x)) in
      All-cons P x xs (own 0 x (omega arith)) (all_of_each P key xs (λ c.
      elim (cases_Bool (key x == c)) [
        | inl t ↦ All-tail P x (filter (λ z. key z == c) xs) (subst (All P) (filter_yes (λ z. key z == c) x xs t) (each c))
        | inr f ↦ subst (All P) (filter_no (λ z. key z == c) x xs f) (each c)
      ]))

  -- no element has this key
  pub none_of_key : (key : X → ℕ) (n c : ℕ) (xs : List X) → n ≤ c → All (λ x. key x < n) xs → filter (λ x. key x == c) xs ≡ []
  none_of_key key n c xs h below = filter_none (λ x. key x == c) xs (λ k d inside.
      elim (eqb_tells (key (get_or xs k d)) c) [
        | inl q ↦ absurd (omega (arith, q.1, h, below k d inside))
        | inr q ↦ q.0
      ])
