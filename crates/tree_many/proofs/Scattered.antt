-- Values put to the places of keys, from keys with places that were sorted stably.
use Rattle.std.proofs.Common.{◌≡◌, ℕ, zero, suc, ◌+◌, ◌<◌, Bool, true, false, cond, not, ◌&&◌, List, [], ◌∷◌, length, map, fold, get_or, set, All, Contains, filter, refl, sym, ap, subst, ◌∙◌, arith, length-set}
use Rattle.std.specs.declared.cmp.Ordering.{Ordering}
use Rattle.std.specs.Ordering.{is_lt}
use Rattle.std.specs.Cmp.{IsTotalOrder}
use Rattle.std.specs.List.{slice_set}
use Rattle.std.specs.List.Sorted.{IsStableBy, IsStableByKey, ties}
use Rattle.std.proofs.Math.Logic.{⊎_elim}
use Rattle.std.proofs.lemmas.Bool.{cases_eq}
use Rattle.std.proofs.lemmas.Cmp.{tied_itself}
use Rattle.std.proofs.lemmas.List.{get_or-map, get_or-set_same, get_or-set_other, get_or_default, length-map, same_lists}
use Rattle.std.proofs.lemmas.List.Elements.{All-contains, All-contains_itself, All-filter, All-get_or, All-map, All-weaker}
use Rattle.tree_many.specs.Places.{placed}

-- ---- a list with values put to places

module _ {X : Type 0} where
  abbrev pub put_all : List X → List (ℕ × X) → List X
  put_all xs es = fold (λ ys e. slice_set ys e.0 e.1) xs es

  length_put_all : (es : List (ℕ × X)) (xs : List X) → length (put_all xs es) ≡ length xs
  length_put_all [] xs = refl
  length_put_all (e ∷ es) xs = length_put_all es (set xs e.0 e.1) ∙ length-set xs e.0 e.1

  module _ (i : ℕ) (d v : X) where
    -- a value that all of the place are stays
    abbrev Agrees : ℕ × X → Type 0
    Agrees e = e.0 ≡ i → e.1 ≡ v

    written : (e : ℕ × X) (xs : List X) → i < length xs → get_or xs i d ≡ v → Agrees e → get_or (set xs e.0 e.1) i d ≡ v
    written e xs lt is a = ⊎_elim
        (λ same. ap (λ n. get_or (set xs n e.1) i d) (sym same) ∙ get_or-set_same xs i e.1 d lt ∙ a (sym same))
        (λ other. get_or-set_other xs e.0 i e.1 d other ∙ is)
        (cases_eq i e.0)

    kept : (es : List (ℕ × X)) (xs : List X) → i < length xs → get_or xs i d ≡ v → All Agrees es → get_or (put_all xs es) i d ≡ v
    kept [] xs lt is a = is
    kept (e ∷ es) xs lt is a = kept es (set xs e.0 e.1) (omega (arith, length-set xs e.0 e.1, lt)) (written e xs lt is (a zero e (omega arith))) (λ k x h. a (suc k) x (omega (arith, h)))

    -- and is put where some value is of the place
    reached : (es : List (ℕ × X)) (xs : List X) (j : ℕ) (x : ℕ × X) → i < length xs → j < length es → (get_or es j x).0 ≡ i → All Agrees es → get_or (put_all xs es) i d ≡ v
    reached [] xs j x lt h is a = absurd (omega (arith, h))
    reached (e ∷ es) xs zero x lt h is a =
        let here : get_or (set xs e.0 e.1) i d ≡ v = ap (λ n. get_or (set xs n e.1) i d) is ∙ get_or-set_same xs i e.1 d lt ∙ a zero e (omega arith) is in
        kept es (set xs e.0 e.1) (omega (arith, length-set xs e.0 e.1, lt)) here (λ k y g. a (suc k) y (omega (arith, g)))
    reached (e ∷ es) xs (suc j) x lt h is a = reached es (set xs e.0 e.1) j x (omega (arith, length-set xs e.0 e.1, lt)) (omega (arith, h)) is (λ k y g. a (suc k) y (omega (arith, g)))

-- ---- keys with their places

module _ {K : Type 0} where
  pub length_placed : (n : ℕ) (keys : List K) → length (placed n keys) ≡ length keys
  length_placed n [] = refl
  length_placed n (k ∷ keys) = ap suc (length_placed (n + 1) keys)

  pub at_place : (n : ℕ) (keys : List K) (i : ℕ) (d : K × ℕ) → i < length keys → get_or (placed n keys) i d ≡ (get_or keys i d.0, n + i)
  at_place n [] i d lt = absurd (omega (arith, lt))
  at_place n (k ∷ keys) zero d lt = ap (λ p. (k, p)) {x = n} {y = n + zero} (omega arith)
  at_place n (k ∷ keys) (suc i) d lt = at_place (n + 1) keys i d (omega (arith, lt)) ∙ ap (λ p. (get_or keys i d.0, p)) {x = n + 1 + i} {y = n + suc i} (omega arith)

-- ---- a stable sort leaves the elements

module _ {X : Type 0} (p : X → Bool) where
  in_filter : (xs : List X) (x : X) → Contains xs x → p x ≡ true → Contains (filter p xs) x
  in_filter [] x (k, lt, is) passes = absurd (omega (arith, lt))
  in_filter (y ∷ xs) x (zero, lt, is) passes = rw (ap p is ∙ passes) (zero, omega arith, is)
  in_filter (y ∷ xs) x (suc k, lt, is) passes =
      let there : Contains (filter p xs) x = in_filter xs x (k, omega (arith, lt), is) passes in
      elim (p y) as (λ b. Contains (cond b (y ∷ filter p xs) (filter p xs)) x) [
        | true ↦ (suc there.0, omega (arith, there.1), there.2)
        | false ↦ there
      ]

module _ {X : Type 0} (lt : X → X → Bool) (itself : (x : X) → ties lt x x ≡ true) where
  all_stable : (P : X → Type 0) (xs ys : List X) → IsStableBy lt xs ys → All P xs → All P ys
  all_stable P xs ys stable h = All-weaker (Contains ys) P (λ y here.
      All-contains P (filter (ties lt y) xs) y (All-filter (ties lt y) P xs h) (subst (λ zs. Contains zs y) (stable y) (in_filter (ties lt y) ys y here (itself y)))) ys (All-contains_itself ys)

-- ---- all

module _ {K X : Type 0} {order : K → K → Ordering} (total : IsTotalOrder order) (f : K → X) (keys : List K) (sorted : List (K × ℕ)) (stable : IsStableByKey (λ (e : K × ℕ). e.0) order (placed 0 keys) sorted) where
  abbrev below : K × ℕ → K × ℕ → Bool
  below x y = is_lt (order x.0 y.0)

  itself : (x : K × ℕ) → ties below x x ≡ true
  itself x = ap (λ o. not (is_lt o) && not (is_lt o)) (tied_itself total x.0)

  abbrev answer : K × ℕ → ℕ × X
  answer e = (e.1, f e.0)

  at : (i : ℕ) (k : K) (d : X) (blanks : List X) → length blanks ≡ length keys → i < length keys → get_or (put_all blanks (map answer sorted)) i d ≡ f (get_or keys i k)
  at i k d blanks long lt =
      let v : X = f (get_or keys i k) in
      let first : All (λ (e : K × ℕ). e.1 ≡ i → f e.0 ≡ v) (placed 0 keys) = λ j x h.
      let inside : j < length keys = omega (arith, h, length_placed 0 keys) in
      subst (λ (e : K × ℕ). e.1 ≡ i → f e.0 ≡ v) (sym (at_place 0 keys j x inside)) (λ is. ap f (get_or_default keys j x.0 k inside ∙ ap (λ n. get_or keys n k) {x = j} {y = i} (omega (arith, is)))) in
      let agreed : All (λ (e : K × ℕ). e.1 ≡ i → f e.0 ≡ v) sorted = all_stable below itself (λ (e : K × ℕ). e.1 ≡ i → f e.0 ≡ v) (placed 0 keys) sorted stable first in
      let here : Contains sorted (get_or (placed 0 keys) i (k, 0)) = All-get_or (Contains sorted) (placed 0 keys) i (k, 0) (omega (arith, lt, length_placed 0 keys)) (all_stable below itself (Contains sorted) sorted (placed 0 keys) (λ x. sym (stable x)) (All-contains_itself sorted)) in
      let e : K × ℕ = get_or (placed 0 keys) i (k, 0) in
      let from_zero : 0 + i ≡ i = omega arith in
      let place : (get_or (map answer sorted) here.0 (answer e)).0 ≡ i = ap (λ (x : ℕ × X). x.0) (get_or-map answer sorted here.0 e (answer e) here.1) ∙ ap (λ (x : K × ℕ). x.1) here.2 ∙ ap (λ (x : K × ℕ). x.1) (at_place 0 keys i (k, 0) lt) ∙ from_zero in
      reached i d v (map answer sorted) blanks here.0 (answer e) (omega (arith, lt, long)) (omega (arith, here.1, length-map sorted answer)) place (All-map (Agrees i d v) answer sorted agreed)

  pub put_to_places : (blanks : List X) → length blanks ≡ length keys → put_all blanks (map answer sorted) ≡ map f keys
  put_to_places blanks long =
      same_lists (put_all blanks (map answer sorted)) (map f keys) (length_put_all (map answer sorted) blanks ∙ long ∙ sym (length-map keys f)) (λ i d lt.
      let inside : i < length keys = omega (arith, lt, length_put_all (map answer sorted) blanks, long) in
      elim keys as (λ ks. ks ≡ keys → get_or (put_all blanks (map answer sorted)) i d ≡ get_or (map f keys) i d) [
        | [] ↦ λ is. absurd (omega (arith, inside, ap length is))
        | k ∷ ks ↦ λ _. at i k d blanks long inside ∙ sym (get_or-map f keys i k d inside)
      ] refl)
