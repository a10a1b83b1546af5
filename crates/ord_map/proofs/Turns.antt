-- Entries put in turn: those of many maps, a stable sort of them, and one at the end.
use Rattle.std.proofs.Common.{◌≡◌, ℕ, zero, suc, ◌+◌, ◌<◌, Bool, true, false, cond, not, ◌&&◌, List, [], ◌∷◌, ◌++◌, Option, Some, None, get_or, length, take, refl, sym, ap, ap₂, subst, ◌∙◌, arith}
use Rattle.std.specs.Prelude.{⊤}
use Rattle.std.specs.declared.cmp.Ordering.{Ordering}
use Rattle.std.specs.declared.cmp.Ordering.TheVariants.{Less, Equal, Greater}
use Rattle.std.specs.Ordering.{is_eq, is_gt, is_lt, ordering_reverse}
use Rattle.std.specs.Cmp.{IsTotalOrder}
use Rattle.std.specs.List.{filter, fold}
use Rattle.std.specs.List.Sorted.{IsSortedByKey, IsStableByKey, ties}
use Rattle.std.specs.Option.{option_map_or}
use Rattle.std.proofs.lemmas.Bool.{false≢true, true≢false}
use Rattle.std.proofs.lemmas.List.Elements.{filter_agree, recursion_from_All}
use Rattle.std.proofs.lemmas.List.MinMax.{ranks_by}
use Rattle.std.proofs.lemmas.List.Sorted.{sorted_far}
use Rattle.std.proofs.lemmas.List.Sums.{fold-append, fold_more}
use Rattle.map_model.specs.Order.{IsExact}
use Rattle.map_model.specs.Entries.{AllBelow, AllKeys, IsIncreasing, above, below, lookup, set}
use Rattle.map_model.specs.SetOperations.{union}
use Rattle.map_model.proofs.Keys.{AllKeys-all, AllKeys-append, AllKeys-back, AllKeys-map, AllKeys-map₂, above_all, around}
use Rattle.map_model.proofs.Lookups.{equal_lookups, lookup-all_less, lookup-set}
use Rattle.map_model.proofs.Splits.{IsIncreasing-set}
use Rattle.map_model.proofs.Unions.{AllKeys-union, IsIncreasing-union, nil-union, set_all, union-split_first}
use Rattle.ord_map.specs.InTurn.{put_in_turn}

-- ---- tests of an order

tie_is_equal : {K : Type 0} {order : K → K → Ordering} (total : IsTotalOrder order) (q k : K) → (not (is_lt (order q k)) && not (is_lt (order k q))) ≡ is_eq (order k q)
tie_is_equal {order} total q k = ap (λ o. not (is_lt o) && not (is_lt (order k q))) (total.antisymm q k) ∙ elim (order k q) as (λ o. (not (is_lt (ordering_reverse o)) && not (is_lt o)) ≡ is_eq o) [ Less ↦ refl | Equal ↦ refl | Greater ↦ refl ]

is_equal : (o : Ordering) → is_eq o ≡ true → o ≡ Equal
is_equal Less h = absurd (false≢true h)
is_equal Equal h = refl
is_equal Greater h = absurd (false≢true h)

is_less : (o : Ordering) → is_eq o ≡ false → is_lt (ordering_reverse o) ≡ false → o ≡ Less
is_less Less h g = refl
is_less Equal h g = absurd (true≢false h)
is_less Greater h g = absurd (true≢false g)

-- ---- a list whose keys do not fall

module _ {K V : Type 0} (order : K → K → Ordering) where
  -- no later key is less
  abbrev pub NeverFalls : List (K × V) → Type 0
  NeverFalls [] = ⊤
  NeverFalls (e ∷ m) = AllKeys (λ k. is_lt (order k e.0) ≡ false) m × NeverFalls m

  -- no key of rest is less than one of m
  abbrev pub NoneLess : List (K × V) → List (K × V) → Type 0
  NoneLess rest m = AllKeys (λ k. AllKeys (λ q. is_lt (order q k) ≡ false) rest) m

-- of a pass over sorted entries, what is out and what is still to come
abbrev pub Resolving : {K V : Type 0} → (K → K → Ordering) → (V → V → V) → List (K × V) → List (K × V) → List (K × V) → Type 0
Resolving order f out rest whole = (put_in_turn order f out rest ≡ whole) × IsIncreasing order out × NeverFalls order rest × NoneLess order rest out

module _ {K V : Type 0} {order : K → K → Ordering} (total : IsTotalOrder order) where
  NeverFalls-from_far : (m : List (K × V)) → ((i j : ℕ) (d : K × V) → i < j → j < length m → is_lt (order (get_or m j d).0 (get_or m i d).0) ≡ false) → NeverFalls order m
  NeverFalls-from_far [] far = tt
  NeverFalls-from_far (e ∷ m) far = (
    recursion_from_All (λ (x : K × V). is_lt (order x.0 e.0) ≡ false) m (λ j d inside. far zero (suc j) d (omega arith) (omega (arith, inside))),
    NeverFalls-from_far m (λ i j d below inside. far (suc i) (suc j) d (omega (arith, below)) (omega (arith, inside))),
  )

  pub NeverFalls-from_sorted : (m : List (K × V)) → IsSortedByKey (λ (e : K × V). e.0) order m → NeverFalls order m
  NeverFalls-from_sorted m s = NeverFalls-from_far m (λ i j d below inside. sorted_far _ (ranks_by total (λ (x : K × V). x.0)) m s i j d (omega (arith, below)) inside)

  below_same : (m : List (K × V)) (k : K) → AllBelow order m k → below order m k ≡ m
  below_same [] k h = refl
  below_same (e ∷ m) k h = ap (λ o. cond (is_lt o) (e ∷ below order m k) (below order m k)) h.0 ∙ ap (λ l. e ∷ l) (below_same m k h.1)

  above_none : (m : List (K × V)) (k : K) → AllBelow order m k → above order m k ≡ []
  above_none [] k h = refl
  above_none (e ∷ m) k h = ap (λ o. cond (is_gt o) (e ∷ above order m k) (above order m k)) h.0 ∙ above_none m k h.1

module _ {K V : Type 0} {order : K → K → Ordering} (total : IsTotalOrder order) (exact : IsExact order) (f : V → V → V) where
  abbrev value_in : List (K × V) → K × V → V
  value_in m e = option_map_or (λ v. f v e.1) (lookup order m e.0) e.1

  -- ---- the entries of a map

  in_turn : (m b n : List (K × V)) → IsIncreasing order b → AllKeys (λ q. lookup order n q ≡ lookup order m q) b → set_all order (value_in m) n b ≡ put_in_turn order f n b
  in_turn m [] n s h = refl
  in_turn m (e ∷ b) n s h =
      let val = value_in m e in
      let here : value_in n e ≡ val = ap (λ o. option_map_or (λ v. f v e.1) o e.1) h.0 in
      let rest =
      AllKeys-map₂ (λ q. order e.0 q ≡ Less) (λ q. lookup order n q ≡ lookup order m q) (λ q. lookup order (set order n e.0 val) q ≡ lookup order m q)
      (λ q less same. lookup-set total exact n e.0 val q ∙ ap (λ o. cond (is_eq o) (Some val) (lookup order n q)) less ∙ same) b s.0 h.1 in
      in_turn m b (set order n e.0 val) s.1 rest ∙ ap (λ v. put_in_turn order f (set order n e.0 v) b) (sym here)

  -- a map's entries put in turn make the union
  pub union-in_turn : (m b : List (K × V)) → IsIncreasing order b → union order f m b ≡ put_in_turn order f m b
  union-in_turn m b s = in_turn m b m s (AllKeys-all (λ q. lookup order m q ≡ lookup order m q) (λ q. refl) b)

  -- and into the empty map they make the map again
  pub in_turn_again : (m : List (K × V)) → IsIncreasing order m → put_in_turn order f [] m ≡ m
  in_turn_again m s = sym (union-in_turn [] m s) ∙ nil-union total exact f m s

  -- the entries of one map more
  pub in_turn_more : (all next : List (K × V)) (maps : List (List (K × V))) (i : ℕ) → i < length maps → next ≡ get_or maps i next → IsIncreasing order next → put_in_turn order f [] all ≡ fold (λ m map. union order f m map) [] (take i maps)
      → put_in_turn order f [] (all ++ next) ≡ fold (λ m map. union order f m map) [] (take (i + 1) maps)
  in_turn_more all next maps i inside is s before =
      let seen = fold (λ m map. union order f m map) [] (take i maps) in
      fold-append (λ n e. union order f n (e ∷ [])) [] all next
      ∙ ap (λ m. put_in_turn order f m next) before
      ∙ sym (union-in_turn seen next s)
      ∙ ap (λ map. union order f seen map) is
      ∙ sym (fold_more (λ m map. union order f m map) [] maps i next inside)

  -- ---- a sort

  pub IsIncreasing-in_turn : (b m : List (K × V)) → IsIncreasing order m → IsIncreasing order (put_in_turn order f m b)
  IsIncreasing-in_turn [] m s = s
  IsIncreasing-in_turn (e ∷ b) m s = IsIncreasing-in_turn b (set order m e.0 (value_in m e)) (IsIncreasing-set total m e.0 (value_in m e) s)

  abbrev at_key : K → K × V → Bool
  at_key q e = is_eq (order e.0 q)

  abbrev turned : Option V → K × V → Option V
  turned o e = Some (option_map_or (λ v. f v e.1) o e.1)

  -- what is found at a key is what its own entries make
  lookup-in_turn : (b m : List (K × V)) (q : K) → lookup order (put_in_turn order f m b) q ≡ fold turned (lookup order m q) (filter (at_key q) b)
  lookup-in_turn [] m q = refl
  lookup-in_turn (e ∷ b) m q =
      let val = value_in m e in
      lookup-in_turn b (set order m e.0 val) q
      ∙ ap (λ o. fold turned o (filter (at_key q) b)) (lookup-set total exact m e.0 val q)
      ∙ elim (order e.0 q) as (λ o. order e.0 q ≡ o → fold turned (cond (is_eq o) (Some val) (lookup order m q)) (filter (at_key q) b) ≡ fold turned (lookup order m q) (cond (is_eq o) (e ∷ filter (at_key q) b) (filter (at_key q) b))) [
        | Less ↦ λ _. refl
        | Equal ↦ λ is. ap (λ k. fold turned (Some (option_map_or (λ v. f v e.1) (lookup order m k) e.1)) (filter (at_key q) b)) (exact e.0 q is)
        | Greater ↦ λ _. refl
      ] refl

  kept_with : (v : V) (xs ys : List (K × V)) → IsStableByKey (λ (e : K × V). e.0) order xs ys → (q : K) → filter (at_key q) ys ≡ filter (at_key q) xs
  kept_with v xs ys stable q =
      let tie : K × V → Bool = ties (λ (x y : K × V). is_lt (order x.0 y.0)) (q, v) in
      let agree : (m : List (K × V)) → filter tie m ≡ filter (at_key q) m = λ m. filter_agree tie (at_key q) (λ e. tie_is_equal total q e.0) m in
      sym (agree ys) ∙ stable (q, v) ∙ agree xs

  kept : (xs ys : List (K × V)) → IsStableByKey (λ (e : K × V). e.0) order xs ys → (q : K) → filter (at_key q) ys ≡ filter (at_key q) xs
  kept [] [] stable q = refl
  kept [] (y ∷ ys) stable q = kept_with y.1 [] (y ∷ ys) stable q
  kept (x ∷ xs) ys stable q = kept_with x.1 (x ∷ xs) ys stable q

  -- a stable sort makes the same map
  pub in_turn-stable : (xs ys : List (K × V)) → IsStableByKey (λ (e : K × V). e.0) order xs ys → put_in_turn order f [] ys ≡ put_in_turn order f [] xs
  in_turn-stable xs ys stable =
      equal_lookups total exact (put_in_turn order f [] ys) (put_in_turn order f [] xs) (IsIncreasing-in_turn ys [] tt) (IsIncreasing-in_turn xs [] tt) (λ q.
      lookup-in_turn ys [] q ∙ ap (fold turned None) (kept xs ys stable q) ∙ sym (lookup-in_turn xs [] q))

  -- ---- one entry at the end

  put_behind : (m : List (K × V)) (e : K × V) → AllBelow order m e.0 → union order f m (e ∷ []) ≡ m ++ e ∷ []
  put_behind m e h =
      ap₂ (λ l o. l ++ (e.0, option_map_or (λ v. f v e.1) o e.1) ∷ above order m e.0) (below_same total m e.0 h) (lookup-all_less total m e.0 h)
      ∙ ap (λ r. m ++ e ∷ r) (above_none total m e.0 h)

  -- an entry with the last one's key
  pub resolved_last : (l m : List (K × V)) (k : K) (old : V) (e : K × V) → m ≡ l ++ (k, old) ∷ [] → IsIncreasing order m → is_eq (order k e.0) ≡ true → l ++ (k, f old e.1) ∷ [] ≡ union order f m (e ∷ [])
  resolved_last l m k old e is s tie =
      let level : order e.0 k ≡ Equal = total.antisymm e.0 k ∙ ap ordering_reverse (is_equal (order k e.0) tie) in
      sym (ap (λ x. union order f x (e ∷ [])) is
      ∙ union-split_first total exact f l k old [] (e ∷ []) (subst (IsIncreasing order) is s) (tt, tt)
      ∙ ap (λ o. union order f l (cond (is_lt o) (e ∷ []) []) ++ (k, option_map_or (λ w. f old w) (cond (is_eq o) (Some e.1) None) old) ∷ union order f [] (cond (is_gt o) (e ∷ []) [])) level)

  -- an entry with another key than the last one's
  pub pushed_behind : (l m : List (K × V)) (k : K) (old : V) (e : K × V) → m ≡ l ++ (k, old) ∷ [] → IsIncreasing order m → AllKeys (λ q. is_lt (order e.0 q) ≡ false) m → is_eq (order k e.0) ≡ false
      → m ++ e ∷ [] ≡ union order f m (e ∷ [])
  pushed_behind l m k old e is s high apart =
      let parts = around order l k old [] (subst (IsIncreasing order) is s) in
      let last = (AllKeys-back (λ q. is_lt (order e.0 q) ≡ false) l ((k, old) ∷ []) (subst (AllKeys (λ q. is_lt (order e.0 q) ≡ false)) is high)).0 in
      let less : order k e.0 ≡ Less = is_less (order k e.0) apart (ap is_lt (sym (total.antisymm e.0 k)) ∙ last) in
      let whole = AllKeys-append (λ q. order q e.0 ≡ Less) l ((k, old) ∷ []) (above_all total e.0 k l less parts.lower) (less, tt) in
      sym (put_behind m e (subst (λ x. AllBelow order x e.0) (sym is) whole))

  -- ---- a pass over sorted entries

  pub resolving_start : (out rest entries : List (K × V)) → out ≡ [] → rest ≡ entries → IsSortedByKey (λ (e : K × V). e.0) order entries → Resolving order f out rest (put_in_turn order f [] entries)
  resolving_start out rest entries none is s =
      subst (λ o. Resolving order f o rest (put_in_turn order f [] entries)) (sym none) (subst (λ r. Resolving order f [] r (put_in_turn order f [] entries)) (sym is) (refl, tt, NeverFalls-from_sorted total entries s, tt))

  module _ (out rest whole : List (K × V)) (here : Resolving order f out rest whole) (e : K × V) (left : List (K × V)) (is : rest ≡ e ∷ left) where
    -- the next entry may be put
    pub none_above : AllKeys (λ k. is_lt (order e.0 k) ≡ false) out
    none_above = AllKeys-map (λ k. AllKeys (λ q. is_lt (order q k) ≡ false) (e ∷ left)) (λ k. is_lt (order e.0 k) ≡ false) (λ k h. h.0) out (subst (λ r. NoneLess order r out) is here.3)

    -- and then the rest is still to come
    pub resolved_on : (out' : List (K × V)) → out' ≡ union order f out (e ∷ []) → Resolving order f out' left whole
    resolved_on out' put =
        let next = union order f out (e ∷ []) in
        let later = AllKeys-map (λ k. AllKeys (λ q. is_lt (order q k) ≡ false) (e ∷ left)) (λ k. AllKeys (λ q. is_lt (order q k) ≡ false) left) (λ k h. h.1) out (subst (λ r. NoneLess order r out) is here.3) in
        let rises : NeverFalls order (e ∷ left) = subst (NeverFalls order) is here.2 in
        subst (λ o. Resolving order f o left whole) (sym put) (
          ap (put_in_turn order f out) (sym is) ∙ here.0,
          IsIncreasing-union total f out (e ∷ []) here.1,
          rises.1,
          AllKeys-union total f (λ k. AllKeys (λ q. is_lt (order q k) ≡ false) left) out (e ∷ []) later (rises.0, tt),
        )
