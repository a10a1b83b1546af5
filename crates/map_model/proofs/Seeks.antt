-- The place of a key in a list whose keys rise, from what is before it and from it on.
use Rattle.std.proofs.Common.{◌≡◌, ℕ, zero, suc, ◌<◌, ◌≤◌, true, false, cond, List, [], ◌∷◌, ◌++◌, length, take, drop, get_or, Some, is_some, refl, sym, ap, ◌∙◌, subst, arith, take-append-drop, append-nil}
use Rattle.std.specs.declared.cmp.Ordering.{Ordering}
use Rattle.std.specs.declared.cmp.Ordering.TheVariants.{Less, Equal, Greater}
use Rattle.std.specs.Ordering.{is_eq, is_lt, is_le}
use Rattle.std.specs.Cmp.{IsTotalOrder}
use Rattle.std.specs.Option.{option_or}
use Rattle.std.proofs.lemmas.Bool.{false≢true}
use Rattle.std.proofs.lemmas.Cmp.{alike_right}
use Rattle.std.proofs.lemmas.List.{length-take-le}
use Rattle.std.proofs.lemmas.List.Elements.{filter-append}
use Rattle.map_model.specs.Entries.{AllAbove, AllBelow, AllKeys, IsIncreasing, below, lookup}
use Rattle.map_model.proofs.Filters.{filter-all_keys, filter-no_keys}
use Rattle.map_model.proofs.Keys.{AllKeys-map, below_all, greater}
use Rattle.map_model.proofs.Lookups.{lookup-append, lookup-all_less, lookup-all_greater}

AllKeys-at : {K V : Type 0} (P : K → Type 0) (es : List (K × V)) (i : ℕ) (e : K × V) → i < length es → e ≡ get_or es i e → AllKeys P es → P e.0
AllKeys-at P [] i e h is a = absurd (omega arith)
AllKeys-at P (x ∷ es) zero e h is a = subst (λ y. P y.0) (sym is) a.0
AllKeys-at P (x ∷ es) (suc i) e h is a = AllKeys-at P es i e (omega arith) is a.1

AllKeys-drop : {K V : Type 0} (P : K → Type 0) (es : List (K × V)) (i : ℕ) → AllKeys P es → AllKeys P (drop i es)
AllKeys-drop P [] zero a = a
AllKeys-drop P [] (suc i) a = a
AllKeys-drop P (x ∷ es) zero a = a
AllKeys-drop P (x ∷ es) (suc i) a = AllKeys-drop P es i a.1

module _ {K : Type 0} {order : K → K → Ordering} (total : IsTotalOrder order) (q : K) where
  -- a key below one that is not above q
  pub below_le : (x e : K) → order x e ≡ Less → is_le (order e q) ≡ true → order x q ≡ Less
  below_le x e less le =
      elim (order e q) as (λ o. order e q ≡ o → is_le o ≡ true → order x q ≡ Less) [
        | Less ↦ λ is _. total.trans x e q less is
        | Equal ↦ λ is _. sym (alike_right total e q x is) ∙ less
        | Greater ↦ λ _ h. absurd (false≢true h)
      ] refl le

module _ {K V : Type 0} {order : K → K → Ordering} (total : IsTotalOrder order) (q : K) where
  -- the keys before one that is not above q
  pub take_less : (es : List (K × V)) (i : ℕ) (e : K × V) → IsIncreasing order es → i < length es → e ≡ get_or es i e → is_le (order e.0 q) ≡ true → AllBelow order (take i es) q
  take_less [] zero e s h is le = tt
  take_less [] (suc i) e s h is le = tt
  take_less (x ∷ es) zero e s h is le = tt
  take_less (x ∷ es) (suc i) e s h is le =
      (below_le total q x.0 e.0 (AllKeys-at (λ k. order x.0 k ≡ Less) es i e (omega arith) is s.0) le, take_less es i e s.1 (omega arith) is le)

module _ {K V : Type 0} {order : K → K → Ordering} (total : IsTotalOrder order) (q : K) where
  -- one key more before a place, which is below q
  pub take_less_too : (es : List (K × V)) (i : ℕ) (e : K × V) → i < length es → e ≡ get_or es i e → order e.0 q ≡ Less → AllBelow order (take i es) q → AllBelow order (take (suc i) es) q
  take_less_too [] i e h is less a = absurd (omega arith)
  take_less_too (x ∷ es) zero e h is less a = (subst (λ y. order y.0 q ≡ Less) is less, tt)
  take_less_too (x ∷ es) (suc i) e h is less a = (a.0, take_less_too es i e (omega arith) is less a.1)

  -- the keys from a place on that is not before a key above q
  pub drop_more : (es : List (K × V)) (i j : ℕ) (e : K × V) → IsIncreasing order es → i < length es → i ≤ j → e ≡ get_or es i e → order q e.0 ≡ Less → AllAbove order (drop j es) q
  drop_more [] i j e s h le is more = absurd (omega arith)
  drop_more (x ∷ es) zero j e s h le is more =
      let first : order q x.0 ≡ Less = subst (λ y. order q y.0 ≡ Less) is more in
      AllKeys-drop (λ k. order q k ≡ Less) (x ∷ es) j (first, below_all total q x.0 es first s.0)
  drop_more (x ∷ es) (suc i) zero e s h le is more = absurd (omega arith)
  drop_more (x ∷ es) (suc i) (suc j) e s h le is more = drop_more es i j e s.1 (omega arith) (omega arith) is more

-- a place of a key: those before it are below q, and from it on none is
module _ {K V : Type 0} {order : K → K → Ordering} (total : IsTotalOrder order) (q : K) (es : List (K × V)) (i : ℕ) (within : i ≤ length es) (lower : AllBelow order (take i es) q) where
  pub place_is : AllKeys (λ k. is_lt (order k q) ≡ false) (drop i es) → i ≡ length (below order es q)
  place_is none =
      let parts : below order es q ≡ take i es ++ [] =
      ap (λ m. below order m q) (sym (take-append-drop i es)) ∙ filter-append (λ d. is_lt (order d.0 q)) (take i es) (drop i es)
      ∙ ap (λ x. x ++ below order (drop i es) q) (filter-all_keys (λ k. is_lt (order k q)) (take i es) (AllKeys-map (λ k. order k q ≡ Less) (λ k. is_lt (order k q) ≡ true) (λ k h. ap is_lt h) (take i es) lower))
      ∙ ap (λ x. take i es ++ x) (filter-no_keys (λ k. is_lt (order k q)) (drop i es) none) in
      sym (ap length (parts ∙ append-nil (take i es)) ∙ length-take-le i es within)

  pub place_above : AllAbove order (drop i es) q → i ≡ length (below order es q)
  place_above upper = place_is (AllKeys-map (λ k. order q k ≡ Less) (λ k. is_lt (order k q) ≡ false) (λ k h. ap is_lt (greater total q k h)) (drop i es) upper)

  pub absent_here : AllAbove order (drop i es) q → is_some (lookup order es q) ≡ false
  absent_here upper =
      ap is_some (ap (λ m. lookup order m q) (sym (take-append-drop i es))
      ∙ lookup-append order (take i es) (drop i es) q
      ∙ ap (λ o. option_or o (lookup order (drop i es) q)) (lookup-all_less total (take i es) q lower)
      ∙ lookup-all_greater total (drop i es) q upper)

module _ {K V : Type 0} {order : K → K → Ordering} (total : IsTotalOrder order) (q : K) where
  -- the place of an entry whose key is q
  pub place_of_hit : (es : List (K × V)) (i : ℕ) (e : K × V) → IsIncreasing order es → i < length es → e ≡ get_or es i e → order e.0 q ≡ Equal → i ≡ length (below order es q)
  place_of_hit [] i e s h is same = absurd (omega arith)
  place_of_hit (x ∷ es) zero e s h is same =
      let first : order x.0 q ≡ Equal = subst (λ y. order y.0 q ≡ Equal) is same in
      rw (first, filter-no_keys (λ k. is_lt (order k q)) es (AllKeys-map (λ k. order x.0 k ≡ Less) (λ k. is_lt (order k q) ≡ false) (λ k g. ap is_lt (greater total q k (sym (total.congr x.0 q k first) ∙ g))) es s.0)) refl
  place_of_hit (x ∷ es) (suc i) e s h is same =
      let less : order x.0 q ≡ Less = sym (alike_right total e.0 q x.0 same) ∙ AllKeys-at (λ k. order x.0 k ≡ Less) es i e (omega arith) is s.0 in
      rw less (ap suc (place_of_hit es i e s.1 (omega arith) is same))

  pub hit_here : (es : List (K × V)) (i : ℕ) (e : K × V) → i < length es → e ≡ get_or es i e → order e.0 q ≡ Equal → is_some (lookup order es q) ≡ true
  hit_here [] i e h is same = absurd (omega arith)
  hit_here (x ∷ es) zero e h is same =
      let first : order x.0 q ≡ Equal = subst (λ y. order y.0 q ≡ Equal) is same in rw first refl
  hit_here (x ∷ es) (suc i) e h is same =
      elim (is_eq (order x.0 q)) as (λ b. is_some (cond b (Some x.1) (lookup order es q)) ≡ true) [ true ↦ refl | false ↦ hit_here es i e (omega arith) is same ]
