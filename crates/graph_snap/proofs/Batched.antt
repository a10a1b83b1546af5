-- Maps of sets, united and taken away from each other.
use Rattle.std.proofs.Common.{◌≡◌, ◌∙◌, ◌<◌, ◌∷◌, ◌==◌, [], ℕ, suc, true, false, not, cond, List, Option, None, Some, length, refl, sym, ap, ap₂, subst, arith}
use Rattle.std.specs.List.{filter, list_any}
use Rattle.std.specs.Option.{is_none, is_some, option_and_then, option_or}
use Rattle.std.specs.Ordering.{is_eq, nat_cmp}
use Rattle.std.proofs.lemmas.Bool.{false≢true}
use Rattle.std.proofs.lemmas.Cmp.{nat_cmp_total}
use Rattle.std.proofs.lemmas.Map.Made.{is_some-lookup}
use Rattle.std.proofs.lemmas.Map.Views.{exact_unsigned_eq}
use Rattle.std.proofs.lemmas.Option.{none-some, same_Some}
use Rattle.map_model.specs.Entries.{IsIncreasing, lookup}
use Rattle.map_model.specs.SetOperations.{difference, intersect, union}
use Rattle.map_model.proofs.Differences.{IsIncreasing-difference, lookup-difference}
use Rattle.map_model.proofs.Intersections.{IsIncreasing-intersect, lookup-intersect, of_both}
use Rattle.map_model.proofs.Keys.{IsIncreasing-filter}
use Rattle.map_model.proofs.Lookups.{first_found, lookup-filter, option_or-none}
use Rattle.map_model.proofs.NatKeys.{nat_exact}
use Rattle.map_model.proofs.Unions.{IsIncreasing-union, lookup-union, united}
use Rattle.graph_snap.specs.Batches.{has_elements}
use Rattle.graph_snap.specs.Edges.{AreSets, IsFilled, IsGraph, Sets, edge_order, edges_of, elements, with_edges, without_edges}
use Rattle.graph_snap.specs.Merging.{merged}
use Rattle.graph_snap.proofs.Sets.{edge_in, found-edges_of, found-with_edges, found-without_edges, graph-edges_of, graph-with_edges, graph-without_edges, keys-elements, same_graphs}

any-edge : (list : List (ℕ × ℕ)) (k : ℕ × ℕ) → list_any (λ e. is_eq (edge_order e k)) list ≡ is_some (lookup edge_order (elements list) k)
any-edge list k = sym (is_some-lookup (λ e. is_eq (edge_order e k)) (elements list) ∙ ap (list_any (λ e. is_eq (edge_order e k))) (keys-elements list))

-- ---- sets

united-or : {V : Type 0} (o p : Option V) → united (λ x y. x) o p ≡ option_or o p
united-or None None = refl
united-or None (Some b) = refl
united-or (Some a) None = refl
united-or (Some a) (Some b) = refl

-- of two elements it does not matter which is found first
either : (o p : Option (Unit {0})) → option_or o p ≡ option_or p o
either None None = refl
either None (Some b) = refl
either (Some a) None = refl
either (Some a) (Some b) = refl

found-merged : (a b : List (ℕ × Unit {0})) (v : ℕ) → IsIncreasing nat_cmp b → lookup nat_cmp (merged a b) v ≡ option_or (lookup nat_cmp b v) (lookup nat_cmp a v)
found-merged a b v s = lookup-union nat_cmp_total nat_exact (λ x y. x) a b v s ∙ united-or (lookup nat_cmp a v) (lookup nat_cmp b v) ∙ either (lookup nat_cmp a v) (lookup nat_cmp b v)

found-without : (a b : List (ℕ × Unit {0})) (v : ℕ) → lookup nat_cmp (difference nat_cmp a b) v ≡ cond (is_some (lookup nat_cmp b v)) None (lookup nat_cmp a v)
found-without a b v =
    lookup-difference nat_exact a b v
    ∙ elim (lookup nat_cmp b v) as (λ o. cond (is_none o) (lookup nat_cmp a v) None ≡ cond (is_some o) None (lookup nat_cmp a v)) [ None ↦ refl | Some x ↦ refl ]

-- a set with an element still has one when more are united with it
merged_some : (a b : List (ℕ × Unit {0})) → 0 < length a → IsIncreasing nat_cmp b → 0 < length (merged a b)
merged_some [] b f s = absurd (let none : ⊥ = omega (arith, f) in none)
merged_some (x ∷ a) b f s =
    elim (merged (x ∷ a) b) as (λ m. merged (x ∷ a) b ≡ m → 0 < length m) [
      | [] ↦ λ is. absurd (none-some tt (sym (ap (λ m. lookup nat_cmp m x.0) is) ∙ found-merged (x ∷ a) b x.0 s ∙ either (lookup nat_cmp b x.0) (lookup nat_cmp (x ∷ a) x.0) ∙ ap (λ o. option_or o (lookup nat_cmp b x.0)) (first_found nat_cmp_total x a)))
      | y ∷ m ↦ λ _. omega arith
    ] refl

some_elements : (ns : List (ℕ × Unit {0})) → has_elements ns ≡ true → 0 < length ns
some_elements [] h = absurd (false≢true h)
some_elements (n ∷ ns) h = omega arith

no_elements : (ns : List (ℕ × Unit {0})) (v : ℕ) → has_elements ns ≡ false → lookup nat_cmp ns v ≡ None
no_elements [] v h = refl
no_elements (n ∷ ns) v h =
    elim (suc (length ns) == 0) as (λ b. suc (length ns) == 0 ≡ b → not b ≡ false → lookup nat_cmp (n ∷ ns) v ≡ None) [
      | true ↦ λ is _. absurd (let none : suc (length ns) ≡ 0 = exact_unsigned_eq (suc (length ns)) 0 is in omega (arith, none))
      | false ↦ λ _ h. absurd (false≢true (sym h))
    ] refl h

module _ (sets batch : Sets) (are : AreSets sets) (be : AreSets batch) where
  -- ---- with the sets of a batch

  abbrev both : Sets
  both = union nat_cmp merged sets batch

  found-both : (u : ℕ) → lookup nat_cmp both u ≡ united merged (lookup nat_cmp sets u) (lookup nat_cmp batch u)
  found-both u = lookup-union nat_cmp_total nat_exact merged sets batch u be.increasing

  pub sets-both : AreSets both
  sets-both = record {
    increasing = IsIncreasing-union nat_cmp_total merged sets batch are.increasing;
    filled = λ u ns h. from u ns (lookup nat_cmp sets u) (lookup nat_cmp batch u) refl refl (sym (found-both u) ∙ h);
  }
    where
      from : (u : ℕ) (ns : List (ℕ × Unit {0})) (o p : Option (List (ℕ × Unit {0}))) → lookup nat_cmp sets u ≡ o → lookup nat_cmp batch u ≡ p → united merged o p ≡ Some ns → IsFilled ns
      from u ns None None a b h = absurd (none-some ns h)
      from u ns None (Some y) a b h = be.filled u ns (b ∙ h)
      from u ns (Some x) None a b h = are.filled u ns (a ∙ h)
      from u ns (Some x) (Some y) a b h =
          let first = are.filled u x a in
          let second = be.filled u y b in
          subst IsFilled (same_Some (merged x y) ns h) (record { some = merged_some x y first.some second.increasing; increasing = IsIncreasing-union nat_cmp_total (λ x y. x) x y first.increasing })

  edge-both : (u v : ℕ) → edge_in both u v ≡ option_or (edge_in batch u v) (edge_in sets u v)
  edge-both u v = ap (option_and_then (λ ns. lookup nat_cmp ns v)) (found-both u) ∙ from (lookup nat_cmp sets u) (lookup nat_cmp batch u) refl
    where
      at : Option (List (ℕ × Unit {0})) → Option (Unit {0})
      at o = option_and_then (λ ns. lookup nat_cmp ns v) o

      from : (o p : Option (List (ℕ × Unit {0}))) → lookup nat_cmp batch u ≡ p → at (united merged o p) ≡ option_or (at p) (at o)
      from None None b = refl
      from None (Some y) b = sym (option_or-none (lookup nat_cmp y v))
      from (Some x) None b = refl
      from (Some x) (Some y) b = found-merged x y v (be.filled u y b).increasing

  pub edges-both : edges_of both ≡ with_edges (edges_of sets) (edges_of batch)
  edges-both =
      same_graphs (edges_of both) (with_edges (edges_of sets) (edges_of batch)) (graph-edges_of both sets-both) (graph-with_edges (edges_of sets) (edges_of batch) (graph-edges_of sets are)) (λ u v.
      found-edges_of both u v sets-both.increasing
      ∙ edge-both u v
      ∙ sym (found-with_edges (edges_of sets) (edges_of batch) (u, v) ∙ ap₂ option_or (found-edges_of batch u v be.increasing) (found-edges_of sets u v are.increasing)))

  -- ---- without the sets of a batch

  abbrev kept : Sets
  kept = filter (λ e. has_elements e.1) (intersect nat_cmp (difference nat_cmp) sets batch)

  abbrev left : Sets
  left = union nat_cmp (λ x y. x) (difference nat_cmp sets batch) kept

  -- a set, where it has elements
  abbrev if_filled : List (ℕ × Unit {0}) → Option (List (ℕ × Unit {0}))
  if_filled ns = cond (has_elements ns) (Some ns) None

  -- what is left at a vertex where the maps have o and p
  abbrev left_at : Option (List (ℕ × Unit {0})) → Option (List (ℕ × Unit {0})) → Option (List (ℕ × Unit {0}))
  left_at o p = united (λ x y. x) (cond (is_none p) o None) (option_and_then if_filled (of_both (difference nat_cmp) o p))

  common_rises : IsIncreasing nat_cmp (intersect nat_cmp (difference nat_cmp) sets batch)
  common_rises = IsIncreasing-intersect nat_cmp (difference nat_cmp) sets batch are.increasing

  found-left : (u : ℕ) → lookup nat_cmp left u ≡ left_at (lookup nat_cmp sets u) (lookup nat_cmp batch u)
  found-left u =
      lookup-union nat_cmp_total nat_exact (λ x y. x) (difference nat_cmp sets batch) kept u (IsIncreasing-filter nat_cmp (λ e. has_elements e.1) (intersect nat_cmp (difference nat_cmp) sets batch) common_rises)
      ∙ ap₂ (united (λ x y. x)) (lookup-difference nat_exact sets batch u)
      (lookup-filter nat_cmp_total nat_exact (λ _ ns. has_elements ns) (intersect nat_cmp (difference nat_cmp) sets batch) u common_rises
      ∙ ap (option_and_then if_filled) (lookup-intersect nat_exact (difference nat_cmp) sets batch u))

  -- at the values that the program has
  pub left_is : (common filled others new : Sets) → common ≡ intersect nat_cmp (difference nat_cmp) sets batch → filled ≡ filter (λ e. has_elements e.1) common → others ≡ difference nat_cmp sets batch → new ≡ union nat_cmp (λ x y. x) others filled → new ≡ left
  left_is common filled others new c f o n = n ∙ ap₂ (λ a b. union nat_cmp (λ x y. x) a b) o (f ∙ ap (filter (λ (e : ℕ × List (ℕ × Unit {0})). has_elements e.1)) c)

  pub sets-left : AreSets left
  sets-left = record {
    increasing = IsIncreasing-union nat_cmp_total (λ x y. x) (difference nat_cmp sets batch) kept (IsIncreasing-difference nat_cmp sets batch are.increasing);
    filled = λ u ns h. from u ns (lookup nat_cmp sets u) (lookup nat_cmp batch u) refl (sym (found-left u) ∙ h);
  }
    where
      from : (u : ℕ) (ns : List (ℕ × Unit {0})) (o p : Option (List (ℕ × Unit {0}))) → lookup nat_cmp sets u ≡ o → left_at o p ≡ Some ns → IsFilled ns
      from u ns None None a h = absurd (none-some ns h)
      from u ns None (Some y) a h = absurd (none-some ns h)
      from u ns (Some x) None a h = are.filled u ns (a ∙ h)
      from u ns (Some x) (Some y) a h =
          elim (has_elements (difference nat_cmp x y)) as (λ t. has_elements (difference nat_cmp x y) ≡ t → united (λ x y. x) None (cond t (Some (difference nat_cmp x y)) None) ≡ Some ns → IsFilled ns) [
            | true ↦ λ some h. subst IsFilled (same_Some (difference nat_cmp x y) ns h) (record { some = some_elements (difference nat_cmp x y) some; increasing = IsIncreasing-difference nat_cmp x y (are.filled u x a).increasing })
            | false ↦ λ _ h. absurd (none-some ns h)
          ] refl h

  edge-left : (u v : ℕ) → edge_in left u v ≡ cond (is_some (edge_in batch u v)) None (edge_in sets u v)
  edge-left u v = ap (option_and_then (λ ns. lookup nat_cmp ns v)) (found-left u) ∙ from (lookup nat_cmp sets u) (lookup nat_cmp batch u)
    where
      at : Option (List (ℕ × Unit {0})) → Option (Unit {0})
      at o = option_and_then (λ ns. lookup nat_cmp ns v) o

      from : (o p : Option (List (ℕ × Unit {0}))) → at (left_at o p) ≡ cond (is_some (at p)) None (at o)
      from None None = refl
      from None (Some y) = elim (is_some (lookup nat_cmp y v)) as (λ t. ◌≡◌ {A = Option (Unit {0})} None (cond t None None)) [ true ↦ refl | false ↦ refl ]
      from (Some x) None = refl
      from (Some x) (Some y) =
          elim (has_elements (difference nat_cmp x y)) as (λ t. has_elements (difference nat_cmp x y) ≡ t → at (united (λ x y. x) None (cond t (Some (difference nat_cmp x y)) None)) ≡ lookup nat_cmp (difference nat_cmp x y) v) [
            | true ↦ λ _. refl
            | false ↦ λ none. sym (no_elements (difference nat_cmp x y) v none)
          ] refl
          ∙ found-without x y v

  pub edges-left : edges_of left ≡ without_edges (edges_of sets) (edges_of batch)
  edges-left =
      same_graphs (edges_of left) (without_edges (edges_of sets) (edges_of batch)) (graph-edges_of left sets-left) (graph-without_edges (edges_of sets) (edges_of batch) (graph-edges_of sets are)) (λ u v.
      found-edges_of left u v sets-left.increasing
      ∙ edge-left u v
      ∙ sym (found-without_edges (edges_of sets) (edges_of batch) (u, v) ∙ ap₂ (λ t o. cond t None o) (any-edge (edges_of batch) (u, v) ∙ ap is_some (found-edges_of batch u v be.increasing)) (found-edges_of sets u v are.increasing)))

-- ---- a batch in order and as it was given

module _ (g list : List (ℕ × ℕ)) (graph : IsGraph g) where
  abbrev sorted : List (ℕ × ℕ)
  sorted = with_edges [] list

  found-sorted : (k : ℕ × ℕ) → lookup edge_order (elements sorted) k ≡ lookup edge_order (elements list) k
  found-sorted k = found-with_edges [] list k ∙ option_or-none (lookup edge_order (elements list) k)

  pub with_sorted : with_edges g sorted ≡ with_edges g list
  with_sorted = same_graphs (with_edges g sorted) (with_edges g list) (graph-with_edges g sorted graph) (graph-with_edges g list graph) (λ u v.
      found-with_edges g sorted (u, v) ∙ ap (λ o. option_or o (lookup edge_order (elements g) (u, v))) (found-sorted (u, v)) ∙ sym (found-with_edges g list (u, v)))

  pub without_sorted : without_edges g sorted ≡ without_edges g list
  without_sorted = same_graphs (without_edges g sorted) (without_edges g list) (graph-without_edges g sorted graph) (graph-without_edges g list graph) (λ u v.
      found-without_edges g sorted (u, v)
      ∙ ap (λ t. cond t None (lookup edge_order (elements g) (u, v))) (any-edge sorted (u, v) ∙ ap is_some (found-sorted (u, v)) ∙ sym (any-edge list (u, v)))
      ∙ sym (found-without_edges g list (u, v)))

-- ---- at the values that the program has

-- edges in order are added as they would be in any order
pub added_in_order : (sets : Sets) (edges g list new : List (ℕ × ℕ)) → edges_of sets ≡ g → AreSets sets → edges ≡ with_edges [] list → new ≡ with_edges (edges_of sets) edges → new ≡ with_edges g list
added_in_order sets edges g list new is are e n =
    n ∙ ap (with_edges (edges_of sets)) e ∙ with_sorted (edges_of sets) list (graph-edges_of sets are) ∙ ap (λ h. with_edges h list) is

pub added : (sets changed batch : Sets) (g list new : List (ℕ × ℕ)) → edges_of sets ≡ g → AreSets sets → batch ≡ changed → edges_of changed ≡ with_edges [] list → new ≡ with_edges (edges_of sets) (edges_of batch) → new ≡ with_edges g list
added sets changed batch g list new is are b e n = added_in_order sets (edges_of batch) g list new is are (ap edges_of b ∙ e) n

pub removed : (sets changed batch : Sets) (g list new : List (ℕ × ℕ)) → edges_of sets ≡ g → AreSets sets → batch ≡ changed → edges_of changed ≡ with_edges [] list → new ≡ without_edges (edges_of sets) (edges_of batch) → new ≡ without_edges g list
removed sets changed batch g list new is are b e n =
    n ∙ ap (without_edges (edges_of sets)) (ap edges_of b ∙ e) ∙ without_sorted (edges_of sets) list (graph-edges_of sets are) ∙ ap (λ h. without_edges h list) is
