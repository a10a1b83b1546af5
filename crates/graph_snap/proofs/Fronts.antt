-- A search by fronts: what it has found at each level, and at the end.
use Rattle.std.proofs.Common.{◌≡◌, ◌∙◌, ◌+◌, ◌-◌, ◌<◌, ◌≤◌, ◌&&◌, ◌∷◌, ◌==◌, ◌||◌, [], ℕ, zero, suc, Bool, true, false, cond, List, Option, None, Some, length, refl, sym, ap, ap₂, subst, arith, eq-eqb}
use Rattle.std.specs.declared.cmp.Ordering.{Ordering}
use Rattle.std.specs.declared.cmp.Ordering.TheVariants.{Less, Equal, Greater}
use Rattle.std.specs.Cmp.{IsTotalOrder}
use Rattle.std.specs.List.{cons_option, filter_map, flat_map, list_any}
use Rattle.std.specs.Map.{keys_of}
use Rattle.std.specs.Option.{is_none, is_some, option_map, option_or}
use Rattle.std.specs.Ordering.{is_eq, nat_cmp}
use Rattle.std.proofs.lemmas.Bool.{and_from, and_parts, false≢true, or_left, or_right}
use Rattle.std.proofs.lemmas.Cmp.{nat_cmp_total, tied_itself}
use Rattle.std.proofs.lemmas.Map.Made.{is_some-lookup}
use Rattle.std.proofs.lemmas.Option.{none-some}
use Rattle.std.proofs.lemmas.Map.Views.{exact_unsigned_eq}
use Rattle.map_model.specs.Order.{IsExact}
use Rattle.map_model.specs.Entries.{AllAbove, IsIncreasing, lookup}
use Rattle.map_model.specs.Operations.{build, last_at}
use Rattle.map_model.specs.SetOperations.{union}
use Rattle.map_model.proofs.Differences.{IsIncreasing-difference, lookup-difference}
use Rattle.map_model.proofs.Lookups.{equal_lookups, first_found, lookup-append, option_or-none}
use Rattle.map_model.proofs.NatKeys.{is_eq-nat_cmp, nat_exact}
use Rattle.map_model.proofs.Operations.{IsIncreasing-build, lookup-after_puts}
use Rattle.map_model.proofs.Unions.{IsIncreasing-union, lookup-union, united}
use Rattle.graph_snap.specs.Edges.{Sets, edge_order, edges_of, elements, set_at}
use Rattle.graph_snap.specs.Merging.{at_distance, neighbours_of, next_front}
use Rattle.graph_snap.specs.Walks.{distances, least, walk}
use Rattle.graph_snap.proofs.Levels.{any_found, at_level, least_some, level, level_bound, next_level, none_left, same_bool, settled}
use Rattle.graph_snap.proofs.Sets.{edge_exact, edge_in, edge_total, found-edges_of, found-set_at, keys-elements, last-element}

-- ---- keys that pass a test

module _ {K V : Type 0} {order : K → K → Ordering} (total : IsTotalOrder order) (exact : IsExact order) (p : K → Bool) where
  passed_key : (m : List (K × V)) → list_any (λ e. p e.0) m ≡ true → (k : K) × (is_some (lookup order m k) ≡ true) × (p k ≡ true)
  passed_key [] h = absurd (false≢true h)
  passed_key (e ∷ m) h =
      elim (p e.0) as (λ b. p e.0 ≡ b → (b || list_any (λ e. p e.0) m) ≡ true → (k : K) × (is_some (lookup order (e ∷ m) k) ≡ true) × (p k ≡ true)) [
        | true ↦ λ is _. (e.0, ap is_some (first_found total e m), is)
        | false ↦ λ _ h. let r = passed_key m h in (r.0, elim (is_eq (order e.0 r.0)) as (λ b. is_some (cond b (Some e.1) (lookup order m r.0)) ≡ true) [ true ↦ refl | false ↦ r.1 ], r.2)
      ] refl h

  key_passes : (m : List (K × V)) (k : K) → is_some (lookup order m k) ≡ true → p k ≡ true → list_any (λ e. p e.0) m ≡ true
  key_passes [] k some passes = absurd (false≢true some)
  key_passes (e ∷ m) k some passes =
      elim (order e.0 k) as (λ o. order e.0 k ≡ o → is_some (cond (is_eq o) (Some e.1) (lookup order m k)) ≡ true → (p e.0 || list_any (λ e. p e.0) m) ≡ true) [
        | Less ↦ λ _ some. or_right (p e.0) (list_any (λ e. p e.0) m) (key_passes m k some passes)
        | Equal ↦ λ is _. or_left (p e.0) (list_any (λ e. p e.0) m) (ap p (exact e.0 k is) ∙ passes)
        | Greater ↦ λ _ some. or_right (p e.0) (list_any (λ e. p e.0) m) (key_passes m k some passes)
      ] refl some

any-elements : {K : Type 0} (p : K → Bool) (ks : List K) → list_any (λ e. p e.0) (elements ks) ≡ list_any p ks
any-elements p [] = refl
any-elements p (k ∷ ks) = ap (λ b. p k || b) (any-elements p ks)

pub any_agree : {X : Type 0} (p q : X → Bool) → ((x : X) → p x ≡ q x) → (xs : List X) → list_any p xs ≡ list_any q xs
any_agree p q same [] = refl
any_agree p q same (x ∷ xs) = ap₂ (λ a b. a || b) (same x) (any_agree p q same xs)

-- ---- the neighbours of a front

is_some-or : {V : Type 0} (o p : Option V) → is_some (option_or o p) ≡ (is_some o || is_some p)
is_some-or None p = refl
is_some-or (Some a) p = refl

module _ (sets : Sets) where
  -- the sets of a front's vertices, one behind the other
  abbrev gathered : List (ℕ × ℕ) → List (ℕ × Unit {0})
  gathered front = flat_map (λ e. set_at sets e.0) front

  neighbours_rise : (front : List (ℕ × ℕ)) → IsIncreasing nat_cmp (neighbours_of sets front)
  neighbours_rise front = IsIncreasing-build nat_cmp_total (gathered front)

  found-gathered : (front : List (ℕ × ℕ)) (v : ℕ) → is_some (lookup nat_cmp (gathered front) v) ≡ list_any (λ e. is_some (edge_in sets e.0 v)) front
  found-gathered [] v = refl
  found-gathered (e ∷ front) v =
      ap is_some (lookup-append nat_cmp (set_at sets e.0) (gathered front) v)
      ∙ is_some-or (lookup nat_cmp (set_at sets e.0) v) (lookup nat_cmp (gathered front) v)
      ∙ ap₂ (λ a b. a || b) (ap is_some (found-set_at sets e.0 e.0 v (tied_itself nat_cmp_total e.0))) (found-gathered front v)

  pub found-neighbours : (front : List (ℕ × ℕ)) (v : ℕ) → is_some (lookup nat_cmp (neighbours_of sets front) v) ≡ list_any (λ e. is_some (edge_in sets e.0 v)) front
  found-neighbours front v =
      ap is_some (lookup-after_puts nat_cmp_total nat_exact (gathered front) [] v ∙ option_or-none (last_at nat_cmp (gathered front) v) ∙ last-element nat_cmp (gathered front) v)
      ∙ found-gathered front v

  -- they are where an edge leads from the front
  pub neighbours-edges : (front : List (ℕ × ℕ)) (v : ℕ) → IsIncreasing nat_cmp sets → is_some (lookup nat_cmp (neighbours_of sets front) v) ≡ list_any (λ e. e.1 == v && is_some (lookup nat_cmp front e.0)) (edges_of sets)
  neighbours-edges front v rises =
      let leads : ℕ × ℕ → Bool = λ e. e.1 == v && is_some (lookup nat_cmp front e.0) in
      let near : ℕ → Bool = λ u. is_some (edge_in sets u v) in
      found-neighbours front v
      ∙ same_bool (list_any (λ e. near e.0) front) (list_any leads (edges_of sets))
      (λ h.
      let r = passed_key nat_cmp_total nat_exact near front h in
      let there : is_some (lookup edge_order (elements (edges_of sets)) (r.0, v)) ≡ true = ap is_some (found-edges_of sets r.0 v rises) ∙ r.2 in
      sym (any-elements leads (edges_of sets)) ∙ key_passes edge_total edge_exact leads (elements (edges_of sets)) (r.0, v) there (and_from (v == v) (is_some (lookup nat_cmp front r.0)) (eq-eqb v v refl) r.1))
      (λ h.
      let r = passed_key edge_total edge_exact leads (elements (edges_of sets)) (any-elements leads (edges_of sets) ∙ h) in
      let e : ℕ × ℕ = r.0 in
      let parts = and_parts (e.1 == v) (is_some (lookup nat_cmp front e.0)) r.2 in
      let there : is_some (edge_in sets e.0 e.1) ≡ true = ap is_some (sym (found-edges_of sets e.0 e.1 rises)) ∙ r.1 in
      key_passes nat_cmp_total nat_exact near front e.0 parts.1 (subst (λ w. is_some (edge_in sets e.0 w) ≡ true) (exact_unsigned_eq e.1 v parts.0) there))

-- ---- a level more

found-at_distance : (d : ℕ) (near : List (ℕ × Unit {0})) (v : ℕ) → lookup nat_cmp (at_distance d near) v ≡ cond (is_some (lookup nat_cmp near v)) (Some d) None
found-at_distance d [] v = refl
found-at_distance d (e ∷ near) v =
    ap (λ o. cond (is_eq (nat_cmp e.0 v)) (Some d) o) (found-at_distance d near v)
    ∙ elim (is_eq (nat_cmp e.0 v)) as (λ b. cond b (Some d) (cond (is_some (lookup nat_cmp near v)) (Some d) None) ≡ cond (is_some (cond b (Some e.1) (lookup nat_cmp near v))) (Some d) None) [ true ↦ refl | false ↦ refl ]

distance_rises : (d : ℕ) (near : List (ℕ × Unit {0})) → IsIncreasing nat_cmp near → IsIncreasing nat_cmp (at_distance d near)
distance_rises d [] h = tt
distance_rises d (e ∷ near) h = (above e.0 near h.0, distance_rises d near h.1)
  where
    above : (k : ℕ) (near : List (ℕ × Unit {0})) → AllAbove nat_cmp near k → AllAbove nat_cmp (at_distance d near) k
    above k [] h = tt
    above k (x ∷ near) h = (h.0, above k near h.1)

-- the neighbours of a front in order, so that a map of them is made as they stand
pub near_rises : (sets : Sets) (front : List (ℕ × ℕ)) (d : ℕ) → IsIncreasing nat_cmp (at_distance d (neighbours_of sets front))
near_rises sets front d = distance_rises d (neighbours_of sets front) (neighbours_rise sets front)

-- the front has the vertices at distance d, and found has all at most so far, with their distances
pub record IsSearch (g : List (ℕ × ℕ)) (s d : ℕ) (front found : List (ℕ × ℕ)) : Type 0 where
  pub front_at : (v : ℕ) → lookup nat_cmp front v ≡ cond (level g s d v) (Some d) None
  pub found_at : (v : ℕ) → lookup nat_cmp found v ≡ least (walk g s v) (suc d)
  pub found_rises : IsIncreasing nat_cmp found

pub search_starts : (g : List (ℕ × ℕ)) (s : ℕ) → IsSearch g s 0 ((s, 0) ∷ []) ((s, 0) ∷ [])
search_starts g s = record {
  front_at = λ v. ap (λ b. cond b (Some 0) None) (same v);
  found_at = λ v. ap (λ b. cond b (Some 0) None) (same v);
  found_rises = (tt, tt);
}
  where
    same : (v : ℕ) → is_eq (nat_cmp s v) ≡ (v == s)
    same v = is_eq-nat_cmp s v ∙ same_bool (s == v) (v == s) (λ h. eq-eqb v s (sym (exact_unsigned_eq s v h))) (λ h. eq-eqb s v (sym (exact_unsigned_eq v s h)))

module _ (sets : Sets) (rises : IsIncreasing nat_cmp sets) (s d : ℕ) (front found : List (ℕ × ℕ)) (search_is : IsSearch (edges_of sets) s d front found) where
  abbrev g : List (ℕ × ℕ)
  g = edges_of sets

  in_front : (u : ℕ) → is_some (lookup nat_cmp front u) ≡ level g s d u
  in_front u = ap is_some (search_is.front_at u) ∙ elim (level g s d u) as (λ b. is_some (cond b (Some d) None) ≡ b) [ true ↦ refl | false ↦ refl ]

  -- what a walk of one more edge reaches
  near_walks : (v : ℕ) → least (walk g s v) (suc d) ≡ None → is_some (lookup nat_cmp (neighbours_of sets front) v) ≡ walk g s v (suc d)
  near_walks v none =
      neighbours-edges sets front v rises
      ∙ any_agree (λ e. e.1 == v && is_some (lookup nat_cmp front e.0)) (λ e. e.1 == v && level g s d e.0) (λ e. ap (λ b. e.1 == v && b) (in_front e.0)) g
      ∙ next_level g s d v none

  abbrev next : List (ℕ × ℕ)
  next = next_front sets front found (suc d)

  next_at : (v : ℕ) → lookup nat_cmp next v ≡ cond (level g s (suc d) v) (Some (suc d)) None
  next_at v =
      lookup-difference nat_exact (at_distance (suc d) (neighbours_of sets front)) found v
      ∙ ap₂ (λ o p. cond (is_none o) p None) (search_is.found_at v) (found-at_distance (suc d) (neighbours_of sets front) v)
      ∙ elim (least (walk g s v) (suc d)) as (λ o. least (walk g s v) (suc d) ≡ o → cond (is_none o) (cond (is_some (lookup nat_cmp (neighbours_of sets front) v)) (Some (suc d)) None) None ≡ cond (is_none o && walk g s v (suc d)) (Some (suc d)) None) [
        | None ↦ λ none. ap (λ b. cond b (Some (suc d)) None) (near_walks v none)
        | Some c ↦ λ _. refl
      ] refl

  next_rises : IsIncreasing nat_cmp next
  next_rises = IsIncreasing-difference nat_cmp (at_distance (suc d) (neighbours_of sets front)) found (near_rises sets front (suc d))

  pub search_goes_on : IsSearch g s (suc d) next (union nat_cmp (λ x y. x) found next)
  search_goes_on = record {
    front_at = next_at;
    found_at = λ v.
        lookup-union nat_cmp_total nat_exact (λ x y. x) found next v next_rises
        ∙ ap₂ (united (λ x y. x)) (search_is.found_at v) (next_at v)
        ∙ elim (least (walk g s v) (suc d)) as (λ o. united (λ x y. x) o (cond (is_none o && walk g s v (suc d)) (Some (suc d)) None) ≡ option_or o (cond (walk g s v (suc d)) (Some (suc d)) None)) [
          | None ↦ elim (walk g s v (suc d)) as (λ b. united (λ x y. x) None (cond b (Some (suc d)) None) ≡ cond b (Some (suc d)) None) [ true ↦ refl | false ↦ refl ]
          | Some c ↦ refl
        ];
    found_rises = IsIncreasing-union nat_cmp_total (λ x y. x) found next search_is.found_rises;
  }

-- ---- the end

-- a front with a vertex is no further than there are edges
pub search_bound : (g : List (ℕ × ℕ)) (s d : ℕ) (front found : List (ℕ × ℕ)) → IsSearch g s d front found → 0 < length front → d ≤ length g
search_bound g s d [] found search_is h = absurd (let none : ⊥ = omega (arith, h) in none)
search_bound g s d (e ∷ front) found search_is h =
    let there : cond (level g s d e.0) (Some d) None ≡ Some e.1 = sym (search_is.front_at e.0) ∙ first_found nat_cmp_total e front in
    elim (level g s d e.0) as (λ b. level g s d e.0 ≡ b → cond b (Some d) None ≡ Some e.1 → d ≤ length g) [
      | true ↦ λ is _. level_bound g s d e.0 (at_level g s d e.0 is)
      | false ↦ λ _ none. absurd (none-some e.1 none)
    ] refl there

module _ (f : ℕ → Option ℕ) where
  abbrev kept : List (ℕ × Unit {0}) → List (ℕ × ℕ)
  kept m = filter_map (λ v. option_map (λ d. (v, d)) (f v)) (keys_of m)

  found-kept : (m : List (ℕ × Unit {0})) (q : ℕ) → lookup nat_cmp (kept m) q ≡ cond (is_some (lookup nat_cmp m q)) (f q) None
  found-kept [] q = refl
  found-kept (e ∷ m) q =
      elim (f e.0) as (λ o. f e.0 ≡ o → lookup nat_cmp (cons_option (option_map (λ d. (e.0, d)) o) (kept m)) q ≡ cond (is_some (cond (is_eq (nat_cmp e.0 q)) (Some e.1) (lookup nat_cmp m q))) (f q) None) [
        | None ↦ λ none. found-kept m q ∙ elim (nat_cmp e.0 q) as (λ o. nat_cmp e.0 q ≡ o → cond (is_some (lookup nat_cmp m q)) (f q) None ≡ cond (is_some (cond (is_eq o) (Some e.1) (lookup nat_cmp m q))) (f q) None) [
          | Less ↦ λ _. refl
          | Equal ↦ λ is. let same : f q ≡ None = ap f (sym (nat_exact e.0 q is)) ∙ none in elim (is_some (lookup nat_cmp m q)) as (λ b. cond b (f q) None ≡ f q) [ true ↦ refl | false ↦ sym same ]
          | Greater ↦ λ _. refl
        ] refl
        | Some d ↦ λ some. elim (nat_cmp e.0 q) as (λ o. nat_cmp e.0 q ≡ o → cond (is_eq o) (Some d) (lookup nat_cmp (kept m) q) ≡ cond (is_some (cond (is_eq o) (Some e.1) (lookup nat_cmp m q))) (f q) None) [
          | Less ↦ λ _. found-kept m q
          | Equal ↦ λ is. sym some ∙ ap f (nat_exact e.0 q is)
          | Greater ↦ λ _. found-kept m q
        ] refl
      ] refl

  above_kept : (k : ℕ) (m : List (ℕ × Unit {0})) → AllAbove nat_cmp m k → AllAbove nat_cmp (kept m) k
  above_kept k [] h = tt
  above_kept k (e ∷ m) h = elim (f e.0) as (λ o. AllAbove nat_cmp (cons_option (option_map (λ d. (e.0, d)) o) (kept m)) k) [ None ↦ above_kept k m h.1 | Some d ↦ (h.0, above_kept k m h.1) ]

  kept_rises : (m : List (ℕ × Unit {0})) → IsIncreasing nat_cmp m → IsIncreasing nat_cmp (kept m)
  kept_rises [] h = tt
  kept_rises (e ∷ m) h = elim (f e.0) as (λ o. IsIncreasing nat_cmp (cons_option (option_map (λ d. (e.0, d)) o) (kept m))) [ None ↦ kept_rises m h.1 | Some d ↦ (above_kept e.0 m h.0, kept_rises m h.1) ]

module _ (g : List (ℕ × ℕ)) (s : ℕ) where
  abbrev ends : List ℕ
  ends = s ∷ flat_map (λ e. e.0 ∷ e.1 ∷ []) g

  -- a number is the end of an edge
  end_of_edge : (h : List (ℕ × ℕ)) (v : ℕ) → list_any (λ e. e.1 == v) h ≡ true → list_any (λ k. is_eq (nat_cmp k v)) (flat_map (λ e. e.0 ∷ e.1 ∷ []) h) ≡ true
  end_of_edge [] v is = absurd (false≢true is)
  end_of_edge (e ∷ h) v is =
      or_right (is_eq (nat_cmp e.0 v)) (is_eq (nat_cmp e.1 v) || list_any (λ k. is_eq (nat_cmp k v)) (flat_map (λ e. e.0 ∷ e.1 ∷ []) h))
      (ap (λ b. b || list_any (λ k. is_eq (nat_cmp k v)) (flat_map (λ e. e.0 ∷ e.1 ∷ []) h)) (is_eq-nat_cmp e.1 v)
      ∙ elim (e.1 == v) as (λ b. (b || list_any (λ e. e.1 == v) h) ≡ true → (b || list_any (λ k. is_eq (nat_cmp k v)) (flat_map (λ e. e.0 ∷ e.1 ∷ []) h)) ≡ true) [ true ↦ λ _. refl | false ↦ λ is. end_of_edge h v is ] is)

  walk_ends : (v d : ℕ) → walk g s v d ≡ true → list_any (λ k. is_eq (nat_cmp k v)) ends ≡ true
  walk_ends v zero h = or_left (is_eq (nat_cmp s v)) (list_any (λ k. is_eq (nat_cmp k v)) (flat_map (λ e. e.0 ∷ e.1 ∷ []) g)) (ap (λ k. is_eq (nat_cmp s k)) (exact_unsigned_eq v s h) ∙ ap is_eq (tied_itself nat_cmp_total s))
  walk_ends v (suc d) h =
      let found = any_found (λ e. e.1 == v && walk g s e.0 d) g h in
      let e : ℕ × ℕ = found.0 in
      or_right (is_eq (nat_cmp s v)) (list_any (λ k. is_eq (nat_cmp k v)) (flat_map (λ e. e.0 ∷ e.1 ∷ []) g)) (end_of_edge g v (found.1 (λ e. e.1 == v) (and_parts (e.1 == v) (walk g s e.0 d) found.2).0))

  is_vertex : (v d : ℕ) → walk g s v d ≡ true → is_some (lookup nat_cmp (build nat_cmp (elements ends)) v) ≡ true
  is_vertex v d h =
      ap is_some (lookup-after_puts nat_cmp_total nat_exact (elements ends) [] v ∙ option_or-none (last_at nat_cmp (elements ends) v) ∙ last-element nat_cmp (elements ends) v)
      ∙ is_some-lookup (λ k. is_eq (nat_cmp k v)) (elements ends)
      ∙ ap (list_any (λ k. is_eq (nat_cmp k v))) (keys-elements ends)
      ∙ walk_ends v d h

  abbrev distance : ℕ → Option ℕ
  distance v = least (walk g s v) (length g + 1)

  pub found-distances : (v : ℕ) → lookup nat_cmp (distances g s) v ≡ distance v
  found-distances v =
      found-kept distance (build nat_cmp (elements ends)) v
      ∙ elim (distance v) as (λ o. distance v ≡ o → cond (is_some (lookup nat_cmp (build nat_cmp (elements ends)) v)) o None ≡ o) [
        | None ↦ λ _. elim (is_some (lookup nat_cmp (build nat_cmp (elements ends)) v)) as (λ b. ◌≡◌ {A = Option ℕ} (cond b None None) None) [ true ↦ refl | false ↦ refl ]
        | Some d ↦ λ some. ap (λ b. cond b (Some d) None) (is_vertex v d (least_some (walk g s v) (length g + 1) d some).passes)
      ] refl

  pub distances_rise : IsIncreasing nat_cmp (distances g s)
  distances_rise = kept_rises distance (build nat_cmp (elements ends)) (IsIncreasing-build nat_cmp_total (elements ends))

-- behind an empty front all distances are found
pub search_ends : (g : List (ℕ × ℕ)) (s d : ℕ) (front found : List (ℕ × ℕ)) → IsSearch g s d front found → length front ≤ 0 → found ≡ distances g s
search_ends g s d (e ∷ front) found search_is h = absurd (let none : ⊥ = omega (arith, h) in none)
search_ends g s d [] found search_is h =
    equal_lookups nat_cmp_total nat_exact found (distances g s) search_is.found_rises (distances_rise g s) (λ v.
    search_is.found_at v ∙ settled g s d (λ v. none_left (level g s d v) d (sym (search_is.front_at v))) v ∙ sym (found-distances g s v))

-- a front found is in order
pub front_rises : (sets : Sets) (front found next lent : List (ℕ × ℕ)) (d : ℕ) → next ≡ next_front sets front found d → lent ≡ next → IsIncreasing nat_cmp lent
front_rises sets front found new lent d n l =
    subst (IsIncreasing nat_cmp) (sym (l ∙ n)) (IsIncreasing-difference nat_cmp (at_distance d (neighbours_of sets front)) found (near_rises sets front d))

-- the step of the search, at the values that the program has
pub goes_on : (sets : Sets) → IsIncreasing nat_cmp sets → (s d more : ℕ) (front shown found next lent all : List (ℕ × ℕ)) → IsSearch (edges_of sets) s d front found → more ≡ d + 1 → shown ≡ front → next ≡ next_front sets shown found more → lent ≡ next → all ≡ union nat_cmp (λ x y. x) found lent → IsSearch (edges_of sets) s more next all
goes_on sets rises s d more front shown found next lent all so_far m w n l a =
    let e : suc d ≡ more = omega (arith, m) in
    let step = search_goes_on sets rises s d front found so_far in
    let g = edges_of sets in
    let is : next ≡ next_front sets front found more = n ∙ ap (λ x. next_front sets x found more) w in
    subst (λ x. IsSearch g s more next x) (sym (a ∙ ap (union nat_cmp (λ x y. x) found) l))
    (subst (λ x. IsSearch g s more x (union nat_cmp (λ x y. x) found x)) (sym is)
    (subst (λ k. IsSearch g s k (next_front sets front found k) (union nat_cmp (λ x y. x) found (next_front sets front found k))) e step))

pub starts_at : (g : List (ℕ × ℕ)) (s : ℕ) (front found : List (ℕ × ℕ)) → front ≡ (s, 0) ∷ [] → found ≡ (s, 0) ∷ [] → IsSearch g s 0 front found
starts_at g s front found f a =
    subst (λ x. IsSearch g s 0 front x) (sym a) (subst (λ x. IsSearch g s 0 x ((s, 0) ∷ [])) (sym f) (search_starts g s))

-- a level further there is less to go
pub less_to_go : (g : List (ℕ × ℕ)) (s d more size : ℕ) (front found : List (ℕ × ℕ)) → IsSearch g s d front found → more ≡ d + 1 → size ≡ length front → 0 < size → length g + 1 - more < length g + 1 - d
less_to_go g s d more size front found search_is m z some =
    let filled : 0 < length front = omega (arith, z, some) in
    let bound = search_bound g s d front found search_is filled in
    omega (arith, m, bound)

pub ends_at : (g : List (ℕ × ℕ)) (s d size : ℕ) (front found : List (ℕ × ℕ)) → IsSearch g s d front found → size ≡ length front → size ≤ 0 → found ≡ distances g s
ends_at g s d size front found search_is z none = search_ends g s d front found search_is (omega (arith, z, none))
