-- Sets that vertices have when edges are added.
use Rattle.std.proofs.Common.{◌≡◌, ◌∙◌, ◌++◌, ◌∷◌, [], ℕ, List, Option, None, Some, take, drop, slice_get, refl, sym, ap, ap₂, subst}
use Rattle.std.specs.List.{fold}
use Rattle.std.specs.Option.{option_map_or}
use Rattle.std.specs.Ordering.{nat_cmp}
use Rattle.std.proofs.lemmas.List.{map-append}
use Rattle.map_model.specs.Entries.{AllAbove, IsIncreasing, lookup, set}
use Rattle.map_model.specs.SetOperations.{union}
use Rattle.graph_snap.specs.Batches.{ends, run}
use Rattle.graph_snap.specs.Edges.{AreSets, IsGraph, Sets, edges_of, with_edges}
use Rattle.graph_snap.specs.Merging.{AreRenewed, merged, renewed, renewed_set}
use Rattle.graph_snap.proofs.Batched.{edges-both, sets-both}
use Rattle.graph_snap.proofs.Runs.{IsGrouping, grouping_ends, grouping_goes_on, grouping_starts}

abbrev Ends : Type 0
Ends = List (ℕ × Unit {0})

-- ---- renewed sets in place of those of a map

module _ (sets : Sets) where
  abbrev put_by : (Ends → Ends → Ends) → Sets → ℕ × Ends → Sets
  put_by f m e = set nat_cmp m e.0 (option_map_or (λ ns. f ns e.1) (lookup nat_cmp sets e.0) e.1)

  always : (o : Option Ends) (ns : Ends) → option_map_or (λ _. ns) o ns ≡ ns
  always None ns = refl
  always (Some os) ns = refl

  puts-renewed : (batch m : Sets) → fold (put_by (λ x y. y)) m (renewed sets batch) ≡ fold (put_by merged) m batch
  puts-renewed [] m = refl
  puts-renewed (e ∷ batch) m =
      ap (λ ns. fold (put_by (λ x y. y)) (set nat_cmp m e.0 ns) (renewed sets batch)) (always (lookup nat_cmp sets e.0) (renewed_set sets e.0 e.1))
      ∙ puts-renewed batch (put_by merged m e)

  above-renewed : (batch : Sets) (u : ℕ) → AllAbove nat_cmp batch u → AllAbove nat_cmp (renewed sets batch) u
  above-renewed [] u h = tt
  above-renewed (e ∷ batch) u h = (h.0, above-renewed batch u h.1)

  rises-renewed : (batch : Sets) → IsIncreasing nat_cmp batch → IsIncreasing nat_cmp (renewed sets batch)
  rises-renewed [] h = tt
  rises-renewed (e ∷ batch) h = (above-renewed batch e.0 h.0, rises-renewed batch h.1)

-- at the values that the program has
module _ (sets : Sets) (edges : List (ℕ × ℕ)) (list shown : Sets) (are : AreSets sets) (of : AreRenewed sets edges list) (s : shown ≡ list) where
  pub renewed_rise : IsIncreasing nat_cmp shown
  renewed_rise = subst (IsIncreasing nat_cmp) (sym (s ∙ of.is)) (rises-renewed sets of.batch of.are.increasing)

  abbrev united : Sets
  united = union nat_cmp (λ x y. y) sets shown

  united_is : united ≡ union nat_cmp merged sets of.batch
  united_is = ap (union nat_cmp (λ x y. y) sets) (s ∙ of.is) ∙ puts-renewed sets of.batch sets

  pub sets-renewed : AreSets united
  sets-renewed = subst AreSets (sym united_is) (sets-both sets of.batch are of.are)

  pub edges-renewed : edges_of united ≡ with_edges (edges_of sets) edges
  edges-renewed = ap edges_of united_is ∙ edges-both sets of.batch are of.are ∙ ap (with_edges (edges_of sets)) of.has

-- ---- one vertex after another

-- a list has the renewed sets but for the vertices of the rest
pub record IsRenewing (sets : Sets) (g : List (ℕ × ℕ)) (list : Sets) (rest : List (ℕ × ℕ)) : Type 0 where
  pub batch : Sets
  pub grouping : IsGrouping g batch rest
  pub is : list ≡ renewed sets batch

pub renewing_starts : (sets : Sets) (g : List (ℕ × ℕ)) → IsRenewing sets g [] g
renewing_starts sets g = record { batch = []; grouping = grouping_starts g; is = refl }

pub renewing_goes_on : (sets : Sets) (g : List (ℕ × ℕ)) → IsGraph g → (list new : Sets) (rest here behind : List (ℕ × ℕ)) (e : ℕ × ℕ) (n : ℕ) (ns : Ends) → IsRenewing sets g list rest → slice_get rest 0 ≡ Some e → n ≡ run e.0 rest → here ≡ take n rest → behind ≡ drop n rest → ns ≡ renewed_set sets e.0 (ends here) → new ≡ list ++ (e.0, ns) ∷ [] → IsRenewing sets g new behind
renewing_goes_on sets g graph list new rest here behind e n ns so_far f c h b s w = record {
  batch = so_far.batch ++ (e.0, ends here) ∷ [];
  grouping = grouping_goes_on g graph so_far.batch (so_far.batch ++ (e.0, ends here) ∷ []) rest here behind e n (ends here) so_far.grouping f c h b refl refl;
  is =
      w
      ∙ ap₂ (λ l x. l ++ (e.0, x) ∷ []) so_far.is s
      ∙ sym (map-append (λ (d : ℕ × Ends). let r : ℕ × Ends = (d.0, renewed_set sets d.0 d.1) in r) so_far.batch ((e.0, ends here) ∷ []));
}

pub renewing_ends : (sets : Sets) (g : List (ℕ × ℕ)) (list : Sets) (rest : List (ℕ × ℕ)) → IsRenewing sets g list rest → slice_get rest 0 ≡ None → AreRenewed sets g list
renewing_ends sets g list rest so_far none = record {
  batch = so_far.batch;
  are = so_far.grouping.are;
  has = grouping_ends g so_far.batch rest so_far.grouping none;
  is = so_far.is;
}
