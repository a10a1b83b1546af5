-- The edges of a map from vertices to sets of out-neighbours.
use Rattle.std.proofs.Common.{◌≡◌, ◌∙◌, ◌+◌, ◌++◌, ◌∷◌, [], ℕ, true, false, cond, List, Option, None, Some, length, map, refl, sym, ap, ap₂, subst, arith, length-append}
use Rattle.std.specs.declared.cmp.Ordering.{Ordering}
use Rattle.std.specs.declared.cmp.Ordering.TheVariants.{Less, Equal, Greater}
use Rattle.std.specs.Cmp.{IsTotalOrder}
use Rattle.std.specs.List.{list_any}
use Rattle.std.specs.Map.{keys_of}
use Rattle.std.specs.Option.{option_and_then, option_or, unwrap_or}
use Rattle.std.specs.Ordering.{is_eq, nat_cmp, ordering_then}
use Rattle.std.proofs.lemmas.Cmp.{nat_cmp_total, on_total, then_total, tied_back, tied_itself}
use Rattle.std.proofs.lemmas.List.{map-append, length-map}
use Rattle.std.proofs.lemmas.Map.Lookups.{exact_pairs, exact_unsigned}
use Rattle.map_model.specs.Order.{IsExact}
use Rattle.map_model.specs.Entries.{AllAbove, IsBefore, IsIncreasing, above, below, drop_key, lookup, set}
use Rattle.map_model.specs.Operations.{after, dels, last_at, puts}
use Rattle.map_model.proofs.Keys.{AllKeys-append, IsIncreasing-append, by_order, greater, lesser}
use Rattle.map_model.proofs.Lookups.{equal_lookups, first_found, lookup-append, lookup-behind, lookup-drop_key, lookup-set, lookup-tail, option_or-none}
use Rattle.map_model.proofs.NatKeys.{nat_exact}
use Rattle.map_model.proofs.Operations.{IsIncreasing-after, last_at-cons, lookup-after_dels, lookup-after_puts}
use Rattle.map_model.proofs.Splits.{IsIncreasing-set, IsIncreasing-drop_key, drop_key-split, split_absent, split_found}
use Rattle.std.proofs.lemmas.Option.{none-some, same_Some}
use Rattle.std.proofs.lemmas.Grind.{flat_map-append}
use Rattle.graph_snap.specs.Edges.{AreSets, IsFilled, IsGraph, Sets, edge_order, edges_of, elements, set_at, with_edges, without_edges}

pub edge_total : IsTotalOrder edge_order
edge_total = then_total (on_total (λ (e : ℕ × ℕ). e.0) nat_cmp_total) (on_total (λ (e : ℕ × ℕ). e.1) nat_cmp_total)

pub edge_exact : IsExact edge_order
edge_exact = exact_pairs nat_cmp nat_cmp exact_unsigned exact_unsigned

-- ---- sets as maps

module _ {K : Type 0} where
  pub keys-elements : (ks : List K) → keys_of (elements ks) ≡ ks
  keys-elements [] = refl
  keys-elements (k ∷ ks) = ap (λ xs. k ∷ xs) (keys-elements ks)

  pub elements-keys : (m : List (K × Unit {0})) → elements (keys_of m) ≡ m
  elements-keys [] = refl
  elements-keys (e ∷ m) = ap (λ xs. e ∷ xs) (elements-keys m)

  -- of a set the last entry of a key is as good as the first
  pub last-element : (order : K → K → Ordering) (m : List (K × Unit {0})) (q : K) → last_at order m q ≡ lookup order m q
  last-element order [] q = refl
  last-element order (e ∷ m) q =
      last_at-cons order e m q
      ∙ ap (λ o. option_or o (cond (is_eq (order e.0 q)) (Some e.1) None)) (last-element order m q)
      ∙ elim (is_eq (order e.0 q)) as (λ b. option_or (lookup order m q) (cond b (Some e.1) None) ≡ cond b (Some e.1) (lookup order m q)) [
        | true ↦ elim (lookup order m q) as (λ o. option_or o (Some e.1) ≡ Some e.1) [ None ↦ refl | Some x ↦ refl ]
        | false ↦ option_or-none (lookup order m q)
      ]

-- ---- what is found among edges

-- the edges from one vertex
abbrev pub fan : ℕ → List (ℕ × Unit {0}) → List (ℕ × ℕ)
fan u ns = map (λ x. (u, x.0)) ns

pub found-fan : (u q v : ℕ) (ns : List (ℕ × Unit {0})) → lookup edge_order (elements (fan u ns)) (q, v) ≡ cond (is_eq (nat_cmp u q)) (lookup nat_cmp ns v) None
found-fan u q v [] = elim (is_eq (nat_cmp u q)) as (λ b. ◌≡◌ {A = Option (Unit {0})} None (cond b None None)) [ true ↦ refl | false ↦ refl ]
found-fan u q v (x ∷ ns) =
    ap (λ r. cond (is_eq (ordering_then (nat_cmp u q) (nat_cmp x.0 v))) (Some tt) r) (found-fan u q v ns)
    ∙ elim (nat_cmp u q) as (λ o. cond (is_eq (ordering_then o (nat_cmp x.0 v))) (Some tt) (cond (is_eq o) (lookup nat_cmp ns v) None) ≡ cond (is_eq o) (cond (is_eq (nat_cmp x.0 v)) (Some x.1) (lookup nat_cmp ns v)) None) [ Less ↦ refl | Equal ↦ refl | Greater ↦ refl ]

-- what a map of sets has at an edge
abbrev pub edge_in : Sets → ℕ → ℕ → Option (Unit {0})
edge_in sets u v = option_and_then (λ ns. lookup nat_cmp ns v) (lookup nat_cmp sets u)

pub found-edges_of : (sets : Sets) (u v : ℕ) → IsIncreasing nat_cmp sets → lookup edge_order (elements (edges_of sets)) (u, v) ≡ edge_in sets u v
found-edges_of [] u v rises = refl
found-edges_of (s ∷ sets) u v rises =
    ap (λ m. lookup edge_order m (u, v)) (map-append (λ (k : ℕ × ℕ). let e : (ℕ × ℕ) × Unit {0} = (k, tt) in e) (fan s.0 s.1) (edges_of sets))
    ∙ lookup-append edge_order (elements (fan s.0 s.1)) (elements (edges_of sets)) (u, v)
    ∙ ap₂ option_or (found-fan s.0 u v s.1) (found-edges_of sets u v rises.1)
    ∙ elim (nat_cmp s.0 u) as (λ o. nat_cmp s.0 u ≡ o → option_or (cond (is_eq o) (lookup nat_cmp s.1 v) None) (edge_in sets u v) ≡ option_and_then (λ ns. lookup nat_cmp ns v) (cond (is_eq o) (Some s.1) (lookup nat_cmp sets u))) [
      | Less ↦ λ _. refl
      | Equal ↦ λ is. ap (λ o. option_or (lookup nat_cmp s.1 v) (option_and_then (λ ns. lookup nat_cmp ns v) o)) (lookup-behind nat_cmp_total s sets u rises is) ∙ option_or-none (lookup nat_cmp s.1 v)
      | Greater ↦ λ _. refl
    ] refl

-- ---- edges in order

module _ (u : ℕ) where
  above_in_fan : (a : ℕ) (ns : List (ℕ × Unit {0})) → AllAbove nat_cmp ns a → AllAbove edge_order (elements (fan u ns)) (u, a)
  above_in_fan a [] h = tt
  above_in_fan a (x ∷ ns) h = (ap (λ o. ordering_then o (nat_cmp a x.0)) (tied_itself nat_cmp_total u) ∙ h.0, above_in_fan a ns h.1)

  fan_rises : (ns : List (ℕ × Unit {0})) → IsIncreasing nat_cmp ns → IsIncreasing edge_order (elements (fan u ns))
  fan_rises [] h = tt
  fan_rises (x ∷ ns) h = (above_in_fan x.0 ns h.0, fan_rises ns h.1)

  above_later : (a w : ℕ) (ns : List (ℕ × Unit {0})) → nat_cmp u w ≡ Less → AllAbove edge_order (elements (fan w ns)) (u, a)
  above_later a w [] h = tt
  above_later a w (x ∷ ns) h = (ap (λ o. ordering_then o (nat_cmp a x.0)) h, above_later a w ns h)

  abbrev splits : (s : ℕ × List (ℕ × Unit {0})) (sets : Sets) → elements (edges_of (s ∷ sets)) ≡ elements (fan s.0 s.1) ++ elements (edges_of sets)
  splits s sets = map-append (λ (k : ℕ × ℕ). let e : (ℕ × ℕ) × Unit {0} = (k, tt) in e) (fan s.0 s.1) (edges_of sets)

  above_edges : (a : ℕ) (sets : Sets) → AllAbove nat_cmp sets u → AllAbove edge_order (elements (edges_of sets)) (u, a)
  above_edges a [] h = tt
  above_edges a (s ∷ sets) h =
      subst (λ m. AllAbove edge_order m (u, a)) (sym (splits s sets)) (AllKeys-append (λ (k : ℕ × ℕ). edge_order (u, a) k ≡ Less) (elements (fan s.0 s.1)) (elements (edges_of sets)) (above_later a s.0 s.1 h.0) (above_edges a sets h.1))

  fan_before : (ns : List (ℕ × Unit {0})) (sets : Sets) → AllAbove nat_cmp sets u → IsBefore edge_order (elements (fan u ns)) (elements (edges_of sets))
  fan_before [] sets h = tt
  fan_before (x ∷ ns) sets h = (above_edges x.0 sets h, fan_before ns sets h)

pub first_filled : (s : ℕ × List (ℕ × Unit {0})) (sets : Sets) → AreSets (s ∷ sets) → IsFilled s.1
first_filled s sets are = are.filled s.0 s.1 (first_found nat_cmp_total s sets)

pub rest_filled : (s : ℕ × List (ℕ × Unit {0})) (sets : Sets) → AreSets (s ∷ sets) → AreSets sets
rest_filled s sets are = record {
  increasing = are.increasing.1;
  filled = λ u ns h. are.filled u ns (elim (is_eq (nat_cmp s.0 u)) as (λ b. cond b None (cond b (Some s.1) (lookup nat_cmp sets u)) ≡ Some ns → cond b (Some s.1) (lookup nat_cmp sets u) ≡ Some ns) [
    | true ↦ λ t. absurd (none-some ns t)
    | false ↦ λ t. t
  ] (sym (lookup-tail nat_cmp_total s sets u are.increasing) ∙ h));
}

pub graph-edges_of : (sets : Sets) → AreSets sets → IsGraph (edges_of sets)
graph-edges_of [] are = tt
graph-edges_of (s ∷ sets) are =
    subst (IsIncreasing edge_order) (sym (map-append (λ (k : ℕ × ℕ). let e : (ℕ × ℕ) × Unit {0} = (k, tt) in e) (fan s.0 s.1) (edges_of sets)))
    (IsIncreasing-append edge_order (elements (fan s.0 s.1)) (elements (edges_of sets)) (fan_rises s.0 s.1 (first_filled s sets are).increasing) (graph-edges_of sets (rest_filled s sets are)) (fan_before s.0 s.1 sets are.increasing.0))

-- graphs with the same edges are equal
pub same_graphs : (g h : List (ℕ × ℕ)) → IsGraph g → IsGraph h → ((u v : ℕ) → lookup edge_order (elements g) (u, v) ≡ lookup edge_order (elements h) (u, v)) → g ≡ h
same_graphs g h s t same = sym (keys-elements g) ∙ ap keys_of (equal_lookups edge_total edge_exact (elements g) (elements h) s t (λ q. same q.0 q.1)) ∙ keys-elements h

-- ---- graphs with and without edges

module _ (g list : List (ℕ × ℕ)) where
  pub graph-with_edges : IsGraph g → IsGraph (with_edges g list)
  graph-with_edges s = subst (IsIncreasing edge_order) (sym (elements-keys (after edge_order (elements g) (puts (elements list))))) (IsIncreasing-after edge_total (puts (elements list)) (elements g) s)

  pub found-with_edges : (k : ℕ × ℕ) → lookup edge_order (elements (with_edges g list)) k ≡ option_or (lookup edge_order (elements list) k) (lookup edge_order (elements g) k)
  found-with_edges k =
      ap (λ m. lookup edge_order m k) (elements-keys (after edge_order (elements g) (puts (elements list))))
      ∙ lookup-after_puts edge_total edge_exact (elements list) (elements g) k
      ∙ ap (λ o. option_or o (lookup edge_order (elements g) k)) (last-element edge_order (elements list) k)

  pub graph-without_edges : IsGraph g → IsGraph (without_edges g list)
  graph-without_edges s = subst (IsIncreasing edge_order) (sym (elements-keys (after edge_order (elements g) (dels list)))) (IsIncreasing-after edge_total (dels list) (elements g) s)

  pub found-without_edges : (k : ℕ × ℕ) → lookup edge_order (elements (without_edges g list)) k ≡ cond (list_any (λ e. is_eq (edge_order e k)) list) None (lookup edge_order (elements g) k)
  found-without_edges k =
      ap (λ m. lookup edge_order m k) (elements-keys (after edge_order (elements g) (dels list)))
      ∙ lookup-after_dels edge_total edge_exact list (elements g) k

-- ---- one set replaced

-- the map with this set at a vertex, which is no key where the set is empty
abbrev pub replace : Sets → ℕ → List (ℕ × Unit {0}) → Sets
replace sets u [] = drop_key nat_cmp sets u
replace sets u (n ∷ ns) = set nat_cmp sets u (n ∷ ns)

abbrev pub filled_or_none : List (ℕ × Unit {0}) → Option (List (ℕ × Unit {0}))
filled_or_none [] = None
filled_or_none (n ∷ ns) = Some (n ∷ ns)

module _ (sets : Sets) (u : ℕ) where
  pub found-replace : (ns : List (ℕ × Unit {0})) (q : ℕ) → lookup nat_cmp (replace sets u ns) q ≡ cond (is_eq (nat_cmp u q)) (filled_or_none ns) (lookup nat_cmp sets q)
  found-replace [] q =
      lookup-drop_key nat_exact sets u q
      ∙ by_order nat_cmp q u
      (λ is. rw (is, greater nat_cmp_total q u is) refl)
      (λ is. rw (is, tied_back nat_cmp_total q u is) refl)
      (λ is. rw (is, lesser nat_cmp_total q u is) refl)
  found-replace (n ∷ ns) q = lookup-set nat_cmp_total nat_exact sets u (n ∷ ns) q

  edge-replace : (ns : List (ℕ × Unit {0})) (q v : ℕ) → edge_in (replace sets u ns) q v ≡ cond (is_eq (nat_cmp u q)) (lookup nat_cmp ns v) (edge_in sets q v)
  edge-replace ns q v =
      ap (option_and_then (λ ns. lookup nat_cmp ns v)) (found-replace ns q)
      ∙ elim (is_eq (nat_cmp u q)) as (λ b. option_and_then (λ ns. lookup nat_cmp ns v) (cond b (filled_or_none ns) (lookup nat_cmp sets q)) ≡ cond b (lookup nat_cmp ns v) (edge_in sets q v)) [
        | true ↦ elim ns as (λ ns. option_and_then (λ ns. lookup nat_cmp ns v) (filled_or_none ns) ≡ lookup nat_cmp ns v) [ [] ↦ refl | n ∷ ns ↦ refl ]
        | false ↦ refl
      ]

  pub sets-replace : (ns : List (ℕ × Unit {0})) → AreSets sets → IsIncreasing nat_cmp ns → AreSets (replace sets u ns)
  sets-replace ns are rises = record {
    increasing = elim ns as (λ ns. IsIncreasing nat_cmp (replace sets u ns)) [ [] ↦ IsIncreasing-drop_key nat_cmp sets u are.increasing | n ∷ ns ↦ IsIncreasing-set nat_cmp_total sets u (n ∷ ns) are.increasing ];
    filled = λ q ms h. elim (is_eq (nat_cmp u q)) as (λ b. cond b (filled_or_none ns) (lookup nat_cmp sets q) ≡ Some ms → IsFilled ms) [
      | true ↦ λ is. from_filled ns ms rises is
      | false ↦ λ is. are.filled q ms is
    ] (sym (found-replace ns q) ∙ h);
  }
    where
      from_filled : (ns ms : List (ℕ × Unit {0})) → IsIncreasing nat_cmp ns → filled_or_none ns ≡ Some ms → IsFilled ms
      from_filled [] ms rises is = absurd (none-some ms is)
      from_filled (n ∷ ns) ms rises is = subst IsFilled (same_Some (n ∷ ns) ms is) (record { some = omega arith; increasing = rises })

  -- what is found in the set of the vertex
  pub found-set_at : (q v : ℕ) → nat_cmp u q ≡ Equal → lookup nat_cmp (set_at sets u) v ≡ edge_in sets q v
  found-set_at q v is =
      ap (λ w. lookup nat_cmp (set_at sets w) v) (nat_exact u q is)
      ∙ elim (lookup nat_cmp sets q) as (λ o. lookup nat_cmp (unwrap_or o []) v ≡ option_and_then (λ ns. lookup nat_cmp ns v) o) [ None ↦ refl | Some ns ↦ refl ]

  pub set_rises : AreSets sets → IsIncreasing nat_cmp (set_at sets u)
  set_rises are = elim (lookup nat_cmp sets u) as (λ o. lookup nat_cmp sets u ≡ o → IsIncreasing nat_cmp (unwrap_or o [])) [ None ↦ λ _. tt | Some ns ↦ λ is. (are.filled u ns is).increasing ] refl

  -- ---- how many edges there are

  pub length-replace : (ns : List (ℕ × Unit {0})) → AreSets sets → length (edges_of (replace sets u ns)) + length (set_at sets u) ≡ length (edges_of sets) + length ns
  length-replace ns are =
      ap (λ n. n + length (set_at sets u)) (length_new ns)
      ∙ swap (length (edges_of (below nat_cmp sets u))) (length (edges_of (above nat_cmp sets u))) (length ns) (length (set_at sets u))
      ∙ ap (λ n. n + length ns) (length_old (lookup nat_cmp sets u) refl)
    where
      swap : (a b n m : ℕ) → a + (n + b) + m ≡ a + (m + b) + n
      swap a b n m = omega arith

      cut_edges : (l r : Sets) → length (edges_of (l ++ r)) ≡ length (edges_of l) + length (edges_of r)
      cut_edges l r = ap length (flat_map-append (λ (s : ℕ × List (ℕ × Unit {0})). fan s.0 s.1) l r) ∙ length-append (edges_of l) (edges_of r)

      with_fan : (ns : List (ℕ × Unit {0})) → length (edges_of (below nat_cmp sets u ++ (u, ns) ∷ above nat_cmp sets u)) ≡ length (edges_of (below nat_cmp sets u)) + (length ns + length (edges_of (above nat_cmp sets u)))
      with_fan ns = cut_edges (below nat_cmp sets u) ((u, ns) ∷ above nat_cmp sets u) ∙ ap (λ n. length (edges_of (below nat_cmp sets u)) + n) (length-append (fan u ns) (edges_of (above nat_cmp sets u)) ∙ ap (λ n. n + length (edges_of (above nat_cmp sets u))) (length-map ns (λ x. (u, x.0))))

      without_fan : length (edges_of (below nat_cmp sets u ++ above nat_cmp sets u)) ≡ length (edges_of (below nat_cmp sets u)) + (0 + length (edges_of (above nat_cmp sets u)))
      without_fan = cut_edges (below nat_cmp sets u) (above nat_cmp sets u) ∙ ap (λ n. length (edges_of (below nat_cmp sets u)) + n) (omega arith)

      length_new : (ns : List (ℕ × Unit {0})) → length (edges_of (replace sets u ns)) ≡ length (edges_of (below nat_cmp sets u)) + (length ns + length (edges_of (above nat_cmp sets u)))
      length_new [] = ap (λ m. length (edges_of m)) (drop_key-split nat_cmp_total nat_exact sets u are.increasing) ∙ without_fan
      length_new (n ∷ ns) = with_fan (n ∷ ns)

      length_old : (o : Option (List (ℕ × Unit {0}))) → lookup nat_cmp sets u ≡ o → length (edges_of (below nat_cmp sets u)) + (length (unwrap_or o []) + length (edges_of (above nat_cmp sets u))) ≡ length (edges_of sets)
      length_old None is = sym (ap (λ m. length (edges_of m)) (split_absent nat_cmp_total nat_exact sets u are.increasing is) ∙ without_fan)
      length_old (Some ns) is = sym (ap (λ m. length (edges_of m)) (split_found nat_cmp_total nat_exact sets u ns are.increasing is) ∙ with_fan ns)
