-- Sets at the values that the program has.
use Rattle.std.proofs.Common.{◌≡◌, ◌∙◌, ◌≤◌, ◌↔◌, Bool, Contains, IsTrue, [], ℕ, List, Option, Some, None, is_some, length, refl, ap, sym, subst, arith}
use Rattle.std.specs.Map.{keys_of}
use Rattle.std.specs.Option.{option_and_then, unwrap_or}
use Rattle.std.specs.Ordering.{nat_cmp}
use Rattle.std.proofs.lemmas.Cmp.{nat_cmp_total}
use Rattle.map_model.specs.Entries.{IsIncreasing, lookup}
use Rattle.map_model.proofs.Members.{has_key}
use Rattle.map_model.specs.Operations.{build}
use Rattle.map_model.specs.SetOperations.{difference}
use Rattle.map_model.proofs.NatKeys.{nat_exact}
use Rattle.map_model.proofs.Operations.{build-increasing}
use Rattle.graph_snap.specs.Edges.{AreSets, Sets, edges_of, elements, out_neighbours, set_at}
use Rattle.graph_snap.specs.Merging.{at_distance, neighbours_of, next_front}
use Rattle.graph_snap.proofs.Counts.{length-out, out-edges_of}
use Rattle.graph_snap.proofs.Fronts.{near_rises}
use Rattle.graph_snap.proofs.Sets.{edge_exact, edge_total, found-edges_of, keys-elements, length-replace}

-- a vertex has no more out-neighbours than there are edges
pub set_within : (sets : Sets) (u : ℕ) → AreSets sets → length (set_at sets u) ≤ length (edges_of sets)
set_within sets u are = let e = length-replace sets u [] are in omega (arith, e)

-- ---- at the values that the program has

pub out_is : (sets : Sets) (g : List (ℕ × ℕ)) (u n : ℕ) → edges_of sets ≡ g → AreSets sets → n ≡ length (set_at sets u) → n ≡ length (out_neighbours g u)
out_is sets g u n is are m = m ∙ sym (length-out sets u are) ∙ ap (λ h. length (out_neighbours h u)) is

pub out_list : (sets : Sets) (g : List (ℕ × ℕ)) (u : ℕ) (list : List ℕ) → edges_of sets ≡ g → AreSets sets → list ≡ keys_of (set_at sets u) → list ≡ out_neighbours g u
out_list sets g u list is are m = m ∙ sym (out-edges_of sets u are.increasing) ∙ ap (λ h. out_neighbours h u) is

found_or_none : (set : Option (List (ℕ × Unit {0}))) (v : ℕ) → lookup nat_cmp (unwrap_or set []) v ≡ option_and_then (λ ns. lookup nat_cmp ns v) set
found_or_none None v = refl
found_or_none (Some ns) v = refl

pub edge_is : (sets : Sets) (g : List (ℕ × ℕ)) (u v : ℕ) (found : Bool) → edges_of sets ≡ g → AreSets sets → found ≡ is_some (lookup nat_cmp (set_at sets u) v) → IsTrue found ↔ Contains g (u, v)
edge_is sets g u v found is are m =
    let there = m ∙ ap is_some (found_or_none (lookup nat_cmp sets u) v ∙ sym (found-edges_of sets u v are.increasing)) in
    let known = has_key edge_total edge_exact (elements (edges_of sets)) (u, v) found there in
    subst (λ edges. IsTrue found ↔ Contains edges (u, v)) (keys-elements (edges_of sets) ∙ is) known

-- of a list in order a map is made as it stands, and its difference is that of the list
pub taken_is : (near found : List (ℕ × ℕ)) (made left listed : List (ℕ × ℕ)) → IsIncreasing nat_cmp near → made ≡ build nat_cmp near → left ≡ difference nat_cmp made found → listed ≡ left → listed ≡ difference nat_cmp near found
taken_is near found made left listed rises m l is =
    is ∙ l ∙ ap (λ x. difference nat_cmp x found) (m ∙ build-increasing nat_cmp_total nat_exact near rises)

pub lent_rises : (sets : Sets) (front : List (ℕ × ℕ)) (d : ℕ) (pairs lent : List (ℕ × ℕ)) → pairs ≡ at_distance d (neighbours_of sets front) → lent ≡ pairs → IsIncreasing nat_cmp lent
lent_rises sets front d pairs lent p l = subst (IsIncreasing nat_cmp) (sym (l ∙ p)) (near_rises sets front d)

pub next_is : (sets : Sets) (front found : List (ℕ × ℕ)) (d : ℕ) (pairs lent next : List (ℕ × ℕ)) → pairs ≡ at_distance d (neighbours_of sets front) → lent ≡ pairs → next ≡ difference nat_cmp lent found → next ≡ next_front sets front found d
next_is sets front found d pairs lent next p l n = n ∙ ap (λ x. difference nat_cmp x found) (l ∙ p)
