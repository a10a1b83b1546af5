-- Edges in order, taken apart into the runs of their first vertices.
use Rattle.std.proofs.Common.{◌≡◌, ◌∙◌, ◌+◌, ◌<◌, ◌≤◌, ◌++◌, ◌∷◌, ◌==◌, [], ℕ, suc, Bool, true, false, cond, List, None, Some, length, map, take, drop, get_or, slice_get, refl, sym, ap, ap₂, subst, arith, append_assoc, take-append-drop, eq-eqb}
use Rattle.std.specs.declared.cmp.Ordering.{Ordering}
use Rattle.std.specs.declared.cmp.Ordering.TheVariants.{Less, Equal, Greater}
use Rattle.std.specs.List.{filter, flat_map}
use Rattle.std.specs.Map.{keys_of}
use Rattle.std.specs.Option.{option_or}
use Rattle.std.specs.Ordering.{is_eq, is_gt, is_lt, nat_cmp, ordering_then}
use Rattle.std.proofs.lemmas.Bool.{false≢true}
use Rattle.std.proofs.lemmas.Cmp.{nat_cmp_total, tied_itself}
use Rattle.std.proofs.lemmas.Grind.{flat_map-append}
use Rattle.std.proofs.lemmas.List.{append-nil, drop_all, drop_more, map-append}
use Rattle.std.proofs.lemmas.List.Elements.{filter_agree}
use Rattle.std.proofs.lemmas.Map.Views.{exact_unsigned_eq}
use Rattle.std.proofs.lemmas.Option.{none-some, same_Some}
use Rattle.aug_monoid.specs.Exact.{pair64_cmp}
use Rattle.aug_monoid.specs.declared.pair64.Pair64.{Pair64}
use Rattle.map_model.specs.Entries.{AllAbove, AllBelow, IsBefore, IsIncreasing, above, below, lookup, set}
use Rattle.map_model.specs.Operations.{after, build, puts}
use Rattle.map_model.proofs.Keys.{AllKeys-append, AllKeys-map, IsBefore-from_append, IsIncreasing-append, IsIncreasing-back, IsIncreasing-front, above_all}
use Rattle.map_model.proofs.Lookups.{lookup-append}
use Rattle.map_model.proofs.NatKeys.{nat_exact}
use Rattle.graph_snap.specs.Batches.{as_key, as_pairs, ends, run}
use Rattle.graph_snap.specs.Edges.{AreSets, IsFilled, IsGraph, Sets, edge_order, edges_of, elements, pairs_of, reversed, turned, with_edges}
use Rattle.graph_snap.specs.declared.edge.Edge.{Edge}
use Rattle.graph_snap.proofs.Sets.{fan}

-- ---- edges as keys of a map

-- other keys in the same order
module _ {K L V : Type 0} (order : K → K → Ordering) (other : L → L → Ordering) (f : K → L) (same : (a b : K) → other (f a) (f b) ≡ order a b) where
  abbrev pub renamed : List (K × V) → List (L × V)
  renamed m = map (λ e. (f e.0, e.1)) m

  filter-renamed : (p : L → Bool) (m : List (K × V)) → filter (λ e. p e.0) (renamed m) ≡ renamed (filter (λ e. p (f e.0)) m)
  filter-renamed p [] = refl
  filter-renamed p (e ∷ m) =
      ap (λ x. cond (p (f e.0)) ((f e.0, e.1) ∷ x) x) (filter-renamed p m)
      ∙ elim (p (f e.0)) as (λ b. cond b ((f e.0, e.1) ∷ renamed (filter (λ e. p (f e.0)) m)) (renamed (filter (λ e. p (f e.0)) m)) ≡ renamed (cond b (e ∷ filter (λ e. p (f e.0)) m) (filter (λ e. p (f e.0)) m))) [ true ↦ refl | false ↦ refl ]

  below-renamed : (m : List (K × V)) (k : K) → below other (renamed m) (f k) ≡ renamed (below order m k)
  below-renamed m k = filter-renamed (λ a. is_lt (other a (f k))) m ∙ ap renamed (filter_agree (λ e. is_lt (other (f e.0) (f k))) (λ e. is_lt (order e.0 k)) (λ e. ap is_lt (same e.0 k)) m)

  above-renamed : (m : List (K × V)) (k : K) → above other (renamed m) (f k) ≡ renamed (above order m k)
  above-renamed m k = filter-renamed (λ a. is_gt (other a (f k))) m ∙ ap renamed (filter_agree (λ e. is_gt (other (f e.0) (f k))) (λ e. is_gt (order e.0 k)) (λ e. ap is_gt (same e.0 k)) m)

  set-renamed : (m : List (K × V)) (k : K) (v : V) → renamed (set order m k v) ≡ set other (renamed m) (f k) v
  set-renamed m k v =
      map-append (λ (e : K × V). let r : L × V = (f e.0, e.1) in r) (below order m k) ((k, v) ∷ above order m k)
      ∙ ap₂ (λ x y. x ++ (f k, v) ∷ y) (sym (below-renamed m k)) (sym (above-renamed m k))

  pub after-renamed : (pairs m : List (K × V)) → renamed (after order m (puts pairs)) ≡ after other (renamed m) (puts (renamed pairs))
  after-renamed [] m = refl
  after-renamed (p ∷ pairs) m = after-renamed pairs (set order m p.0 p.1) ∙ ap (λ x. after other x (puts (renamed pairs))) (set-renamed m p.0 p.1)

abbrev pair_of : Pair64 → ℕ × ℕ
pair_of k = (k.first, k.second)

keys-renamed : (m : List (Pair64 × Unit {0})) → as_pairs m ≡ keys_of (renamed pair64_cmp edge_order pair_of (λ a b. refl) m)
keys-renamed [] = refl
keys-renamed (e ∷ m) = ap (λ x. (e.0.first, e.0.second) ∷ x) (keys-renamed m)

-- the keys of edges, one behind the other
abbrev keys_of_edges : List Edge → List (Pair64 × Unit {0})
keys_of_edges list = flat_map (λ e. as_key false e ∷ []) list

keys-edges : (list : List Edge) → renamed pair64_cmp edge_order pair_of (λ a b. refl) (keys_of_edges list) ≡ elements (pairs_of list)
keys-edges [] = refl
keys-edges (e ∷ list) = ap (λ x. ((e.from, e.to), tt) ∷ x) (keys-edges list)

-- keys put in order are the edges that they stand for
ordered_keys : (keys : List (Pair64 × Unit {0})) (list : List (ℕ × ℕ)) → renamed pair64_cmp edge_order pair_of (λ a b. refl) keys ≡ elements list → as_pairs (build pair64_cmp keys) ≡ with_edges [] list
ordered_keys keys list is =
    keys-renamed (build pair64_cmp keys)
    ∙ ap keys_of (after-renamed pair64_cmp edge_order pair_of (λ a b. refl) keys [] ∙ ap (λ x. after edge_order [] (puts x)) is)

pub ordered_pairs : (list : List Edge) → as_pairs (build pair64_cmp (keys_of_edges list)) ≡ with_edges [] (pairs_of list)
ordered_pairs list = ordered_keys (keys_of_edges list) (pairs_of list) (keys-edges list)

pub in_order_is : (list : List Edge) (keys lent : List (Pair64 × Unit {0})) (pairs : List (ℕ × ℕ)) → keys ≡ build pair64_cmp (keys_of_edges list) → lent ≡ keys → pairs ≡ as_pairs lent → pairs ≡ with_edges [] (pairs_of list)
in_order_is list keys lent pairs k l p = p ∙ ap as_pairs (l ∙ k) ∙ ordered_pairs list

-- the same of edges turned round
abbrev keys_of_turned : List Edge → List (Pair64 × Unit {0})
keys_of_turned list = flat_map (λ e. as_key true e ∷ []) list

keys-turned : (list : List Edge) → renamed pair64_cmp edge_order pair_of (λ a b. refl) (keys_of_turned list) ≡ elements (turned (pairs_of list))
keys-turned [] = refl
keys-turned (e ∷ list) = ap (λ x. ((e.to, e.from), tt) ∷ x) (keys-turned list)

pub turned_order_is : (list : List Edge) (keys lent : List (Pair64 × Unit {0})) (pairs : List (ℕ × ℕ)) → keys ≡ build pair64_cmp (keys_of_turned list) → lent ≡ keys → pairs ≡ as_pairs lent → pairs ≡ reversed (pairs_of list)
turned_order_is list keys lent pairs k l p = p ∙ ap as_pairs (l ∙ k) ∙ ordered_keys (keys_of_turned list) (turned (pairs_of list)) (keys-turned list)

-- the set of one edge's end
pub single_end : (edges : List (ℕ × ℕ)) (e : ℕ × ℕ) → length edges ≡ 1 → e ≡ get_or edges 0 e → (e.1, tt) ∷ [] ≡ ends edges
single_end [] e h is = absurd (let none : ⊥ = omega (arith, h) in none)
single_end (x ∷ []) e h is = ap (λ (d : ℕ × ℕ). (d.1, tt) ∷ []) is
single_end (x ∷ y ∷ edges) e h is = absurd (let none : ⊥ = omega (arith, h) in none)

-- ---- the run of one vertex

run_fan : (u : ℕ) (g : List (ℕ × ℕ)) → take (run u g) g ≡ fan u (ends (take (run u g) g))
run_fan u [] = refl
run_fan u (e ∷ g) =
    elim (e.0 == u) as (λ b. e.0 == u ≡ b → take (cond b (suc (run u g)) 0) (e ∷ g) ≡ fan u (ends (take (cond b (suc (run u g)) 0) (e ∷ g)))) [
      | true ↦ λ is. ap₂ (λ x m. x ∷ m) (ap (λ k. let p : ℕ × ℕ = (k, e.1) in p) (exact_unsigned_eq e.0 u is)) (run_fan u g)
      | false ↦ λ _. refl
    ] refl

pub run_within : (u : ℕ) (g : List (ℕ × ℕ)) → run u g ≤ length g
run_within u [] = omega arith
run_within u (e ∷ g) = let rest = run_within u g in elim (e.0 == u) as (λ b. cond b (suc (run u g)) 0 ≤ suc (length g)) [ true ↦ omega (arith, rest) | false ↦ omega arith ]

-- how long a run is, one edge after another
pub run_goes_on : (u : ℕ) (g : List (ℕ × ℕ)) (i : ℕ) (d : ℕ × ℕ) → i < length g → (get_or g i d).0 ≡ u → i + run u (drop i g) ≡ i + 1 + run u (drop (i + 1) g)
run_goes_on u g i d h is =
    let more : run u (drop i g) ≡ suc (run u (drop (i + 1) g)) =
    ap (run u) (drop_more g i d h) ∙ ap (λ b. cond b (suc (run u (drop (i + 1) g))) 0) (eq-eqb (get_or g i d).0 u is) in
    omega (arith, more)

pub run_ends : (u : ℕ) (g : List (ℕ × ℕ)) (i : ℕ) (d : ℕ × ℕ) → i < length g → ((get_or g i d).0 == u) ≡ false → i + run u (drop i g) ≡ run u g → i ≡ run u g
run_ends u g i d h other so_far =
    let none : run u (drop i g) ≡ 0 =
    ap (run u) (drop_more g i d h) ∙ ap (λ b. cond b (suc (run u (drop (i + 1) g))) 0) other in
    omega (arith, none, so_far)

pub run_all : (u : ℕ) (g : List (ℕ × ℕ)) (i n : ℕ) → length g ≤ i → i ≤ n → n ≡ length g → i + run u (drop i g) ≡ run u g → n ≡ run u g
run_all u g i n h l z so_far =
    let none : run u (drop i g) ≡ 0 = ap (run u) (drop_all i g h) in
    omega (arith, none, so_far, h, l, z)

-- the run of the first vertex has its edge
run_first : (e : ℕ × ℕ) (g : List (ℕ × ℕ)) → run e.0 (e ∷ g) ≡ suc (run e.0 g)
run_first e g = ap (λ b. cond b (suc (run e.0 g)) 0) (eq-eqb e.0 e.0 refl)

pub run_some : (g : List (ℕ × ℕ)) (e : ℕ × ℕ) → slice_get g 0 ≡ Some e → 0 < run e.0 g
run_some [] e h = absurd (none-some e h)
run_some (d ∷ g) e h = let first = run_first d g in subst (λ x. 0 < run x.0 (d ∷ g)) (same_Some d e h) (omega (arith, first))

-- behind it another vertex follows
run_stops : (u : ℕ) (g : List (ℕ × ℕ)) (d : ℕ × ℕ) (more : List (ℕ × ℕ)) → drop (run u g) g ≡ d ∷ more → (d.0 == u) ≡ false
run_stops u [] d more h = absurd (let none : ⊥ = omega (arith, ap length h) in none)
run_stops u (e ∷ g) d more h =
    elim (e.0 == u) as (λ b. e.0 == u ≡ b → drop (cond b (suc (run u g)) 0) (e ∷ g) ≡ d ∷ more → (d.0 == u) ≡ false) [
      | true ↦ λ _ h. run_stops u g d more h
      | false ↦ λ no h. subst (λ x. (x.0 == u) ≡ false) (same_Some e d (ap (λ m. slice_get m 0) h)) no
    ] refl h

-- ---- in order

module _ (u : ℕ) where
  fan_above : (a : ℕ) (ns : List (ℕ × Unit {0})) → AllAbove edge_order (elements (fan u ns)) (u, a) → AllAbove nat_cmp ns a
  fan_above a [] h = tt
  fan_above a (x ∷ ns) h = (sym (ap (λ o. ordering_then o (nat_cmp a x.0)) (tied_itself nat_cmp_total u)) ∙ h.0, fan_above a ns h.1)

  fan_rises_back : (ns : List (ℕ × Unit {0})) → IsIncreasing edge_order (elements (fan u ns)) → IsIncreasing nat_cmp ns
  fan_rises_back [] h = tt
  fan_rises_back (x ∷ ns) h = (fan_above x.0 ns h.0, fan_rises_back ns h.1)

elements-append : (a b : List (ℕ × ℕ)) → elements (a ++ b) ≡ elements a ++ elements b
elements-append a b = map-append (λ (k : ℕ × ℕ). let e : (ℕ × ℕ) × Unit {0} = (k, tt) in e) a b

-- a later edge from another vertex is from a later one
later_vertex : (u : ℕ) (ns : List (ℕ × Unit {0})) (d : ℕ × ℕ) (more : List (ℕ × ℕ)) → 0 < length ns → IsBefore edge_order (elements (fan u ns)) (elements (d ∷ more)) → (d.0 == u) ≡ false → nat_cmp u d.0 ≡ Less
later_vertex u [] d more some before other = absurd (let none : ⊥ = omega (arith, some) in none)
later_vertex u (x ∷ ns) d more some before other =
    elim (nat_cmp u d.0) as (λ o. nat_cmp u d.0 ≡ o → ordering_then o (nat_cmp x.0 d.1) ≡ Less → o ≡ Less) [
      | Less ↦ λ _ _. refl
      | Equal ↦ λ is _. absurd (false≢true (sym other ∙ eq-eqb d.0 u (sym (nat_exact u d.0 is))))
      | Greater ↦ λ _ h. h
    ] refl before.0.0

-- ---- sets that have the edges so far

-- the edges begin with a later vertex than those of a map
abbrev pub IsAfter : Sets → List (ℕ × ℕ) → Type 0
IsAfter sets [] = Unit {0}
IsAfter sets (e ∷ g) = AllBelow nat_cmp sets e.0

-- the sets have the edges of a graph but for the rest
pub record IsGrouping (g : List (ℕ × ℕ)) (sets : Sets) (rest : List (ℕ × ℕ)) : Type 0 where
  pub covers : edges_of sets ++ rest ≡ g
  pub are : AreSets sets
  pub later : IsAfter sets rest

pub grouping_starts : (g : List (ℕ × ℕ)) → IsGrouping g [] g
grouping_starts g = record { covers = refl; are = record { increasing = tt; filled = λ u ns h. absurd (none-some ns h) }; later = first g }
  where
    first : (g : List (ℕ × ℕ)) → IsAfter [] g
    first [] = tt
    first (e ∷ g) = tt

-- a later vertex with its set
one_more : (sets : Sets) (u : ℕ) (ns : List (ℕ × Unit {0})) → AreSets sets → AllBelow nat_cmp sets u → IsFilled ns → AreSets (sets ++ (u, ns) ∷ [])
one_more sets u ns are low is_filled = record {
  increasing = IsIncreasing-append nat_cmp sets ((u, ns) ∷ []) are.increasing (tt, tt) (AllKeys-map (λ k. nat_cmp k u ≡ Less) (λ k. AllAbove nat_cmp ((u, ns) ∷ []) k) (λ k h. (h, tt)) sets low);
  filled = λ q ms h. elim (lookup nat_cmp sets q) as (λ o. lookup nat_cmp sets q ≡ o → option_or o (cond (is_eq (nat_cmp u q)) (Some ns) None) ≡ Some ms → IsFilled ms) [
    | None ↦ λ _. elim (is_eq (nat_cmp u q)) as (λ b. cond b (Some ns) None ≡ Some ms → IsFilled ms) [ true ↦ λ h. subst IsFilled (same_Some ns ms h) is_filled | false ↦ λ h. absurd (none-some ms h) ]
    | Some os ↦ λ is h. are.filled q ms (is ∙ h)
  ] refl (sym (lookup-append nat_cmp sets ((u, ns) ∷ []) q) ∙ h);
}

module _ (g : List (ℕ × ℕ)) (graph : IsGraph g) (sets : Sets) (e : ℕ × ℕ) (tail : List (ℕ × ℕ)) (so_far : IsGrouping g sets (e ∷ tail)) where
  abbrev left : List (ℕ × ℕ)
  left = e ∷ tail

  abbrev set_here : List (ℕ × Unit {0})
  set_here = ends (take (run e.0 left) left)

  abbrev after_run : List (ℕ × ℕ)
  after_run = drop (run e.0 left) left

  parts : fan e.0 set_here ++ after_run ≡ left
  parts = ap (λ x. x ++ after_run) (sym (run_fan e.0 left)) ∙ take-append-drop (run e.0 left) left

  whole : edges_of sets ++ (fan e.0 set_here ++ after_run) ≡ g
  whole = ap (λ x. edges_of sets ++ x) parts ∙ so_far.covers

  from_here : IsIncreasing edge_order (elements (fan e.0 set_here) ++ elements after_run)
  from_here =
      subst (IsIncreasing edge_order) (elements-append (fan e.0 set_here) after_run) (IsIncreasing-back edge_order (elements (edges_of sets)) (elements (fan e.0 set_here ++ after_run)) (subst (IsIncreasing edge_order) (elements-append (edges_of sets) (fan e.0 set_here ++ after_run)) (subst IsGraph (sym whole) graph)))

  rises : IsIncreasing nat_cmp set_here
  rises = fan_rises_back e.0 set_here (IsIncreasing-front edge_order (elements (fan e.0 set_here)) (elements after_run) from_here)

  some : 0 < length set_here
  some = subst (λ n. 0 < length (ends (take n left))) (sym (run_first e tail)) (omega arith)

  behind_later : (b : List (ℕ × ℕ)) → after_run ≡ b → IsAfter (sets ++ (e.0, set_here) ∷ []) b
  behind_later [] is = tt
  behind_later (d ∷ more) is =
      let before = subst (λ b. IsBefore edge_order (elements (fan e.0 set_here)) (elements b)) is (IsBefore-from_append edge_order (elements (fan e.0 set_here)) (elements after_run) from_here) in
      let less : nat_cmp e.0 d.0 ≡ Less = later_vertex e.0 set_here d more some before (run_stops e.0 left d more is) in
      AllKeys-append (λ k. nat_cmp k d.0 ≡ Less) sets ((e.0, set_here) ∷ []) (above_all nat_cmp_total d.0 e.0 sets less so_far.later) (less, tt)

  grouping_more : IsGrouping g (sets ++ (e.0, set_here) ∷ []) after_run
  grouping_more = record {
    covers =
        ap (λ x. x ++ after_run) (flat_map-append (λ (s : ℕ × List (ℕ × Unit {0})). fan s.0 s.1) sets ((e.0, set_here) ∷ []) ∙ ap (λ x. edges_of sets ++ x) (append-nil (fan e.0 set_here)))
        ∙ append_assoc (edges_of sets) (fan e.0 set_here) after_run
        ∙ whole;
    are = one_more sets e.0 set_here so_far.are so_far.later (record { some = some; increasing = rises });
    later = behind_later after_run refl;
  }

-- one run more, at the values that the program has
pub grouping_goes_on : (g : List (ℕ × ℕ)) → IsGraph g → (sets new : Sets) (rest here behind : List (ℕ × ℕ)) (e : ℕ × ℕ) (n : ℕ) (ns : List (ℕ × Unit {0})) → IsGrouping g sets rest → slice_get rest 0 ≡ Some e → n ≡ run e.0 rest → here ≡ take n rest → behind ≡ drop n rest → ns ≡ ends here → new ≡ sets ++ (e.0, ns) ∷ [] → IsGrouping g new behind
grouping_goes_on g graph sets new [] here behind e n ns so_far f c h b s w = absurd (none-some e f)
grouping_goes_on g graph sets new (d ∷ tail) here behind e n ns so_far f c h b s w =
    let first : d ≡ e = same_Some d e f in
    let count : n ≡ run d.0 (d ∷ tail) = c ∙ ap (λ x. run x.0 (d ∷ tail)) (sym first) in
    let set : ns ≡ ends (take (run d.0 (d ∷ tail)) (d ∷ tail)) = s ∙ ap ends (h ∙ ap (λ k. take k (d ∷ tail)) count) in
    let all : new ≡ sets ++ (d.0, ends (take (run d.0 (d ∷ tail)) (d ∷ tail))) ∷ [] = w ∙ ap₂ (λ x y. sets ++ (x.0, y) ∷ []) (sym first) set in
    subst (λ m. IsGrouping g m behind) (sym all) (subst (IsGrouping g (sets ++ (d.0, ends (take (run d.0 (d ∷ tail)) (d ∷ tail))) ∷ [])) (sym (b ∙ ap (λ k. drop k (d ∷ tail)) count)) (grouping_more g graph sets d tail so_far))

-- the ends of a run rise
pub ends_rise : (g : List (ℕ × ℕ)) → IsGraph g → (sets : Sets) (rest here : List (ℕ × ℕ)) (e : ℕ × ℕ) (n : ℕ) → IsGrouping g sets rest → slice_get rest 0 ≡ Some e → n ≡ run e.0 rest → here ≡ take n rest → IsIncreasing nat_cmp (ends here)
ends_rise g graph sets [] here e n so_far f c h = absurd (none-some e f)
ends_rise g graph sets (d ∷ tail) here e n so_far f c h =
    subst (λ x. IsIncreasing nat_cmp (ends x)) (sym (h ∙ ap (λ k. take k (d ∷ tail)) (c ∙ ap (λ x. run x.0 (d ∷ tail)) (sym (same_Some d e f))))) (rises g graph sets d tail so_far)

pub grouping_ends : (g : List (ℕ × ℕ)) (sets : Sets) (rest : List (ℕ × ℕ)) → IsGrouping g sets rest → slice_get rest 0 ≡ None → edges_of sets ≡ g
grouping_ends g sets [] so_far none = sym (append-nil (edges_of sets)) ∙ so_far.covers
grouping_ends g sets (e ∷ more) so_far none = absurd (none-some e (sym none))
