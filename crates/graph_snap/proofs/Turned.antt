-- Graphs whose edges are turned round.
use Rattle.std.proofs.Common.{◌≡◌, ◌∙◌, ◌∷◌, ◌↔◌, [], ℕ, IsTrue, List, Some, cond, is_some, refl, sym, ap, ap₂, subst, Contains}
use Rattle.std.specs.declared.cmp.Ordering.{Ordering}
use Rattle.std.specs.declared.cmp.Ordering.TheVariants.{Less, Equal, Greater}
use Rattle.std.specs.Ordering.{is_eq, nat_cmp, ordering_then}
use Rattle.map_model.specs.Entries.{lookup}
use Rattle.map_model.proofs.Lookups.{option_or-none}
use Rattle.map_model.proofs.Members.{has_key}
use Rattle.graph_snap.specs.Edges.{IsReverse, Sets, edge_order, edges_of, elements, pairs_of, reversed, turned}
use Rattle.graph_snap.specs.declared.edge.Edge.{Edge}
use Rattle.graph_snap.proofs.Sets.{edge_exact, edge_total, found-with_edges, keys-elements}

either_way : (a b : Ordering) → is_eq (ordering_then a b) ≡ is_eq (ordering_then b a)
either_way Less Less = refl
either_way Less Equal = refl
either_way Less Greater = refl
either_way Equal Less = refl
either_way Equal Equal = refl
either_way Equal Greater = refl
either_way Greater Less = refl
either_way Greater Equal = refl
either_way Greater Greater = refl

found-turned : (g : List (ℕ × ℕ)) (u v : ℕ) → lookup edge_order (elements (turned g)) (v, u) ≡ lookup edge_order (elements g) (u, v)
found-turned [] u v = refl
found-turned (e ∷ g) u v = ap₂ (λ b o. cond b (Some tt) o) (either_way (nat_cmp e.1 v) (nat_cmp e.0 u)) (found-turned g u v)

found-reversed : (g : List (ℕ × ℕ)) (u v : ℕ) → lookup edge_order (elements (reversed g)) (v, u) ≡ lookup edge_order (elements g) (u, v)
found-reversed g u v = found-with_edges [] (turned g) (v, u) ∙ option_or-none (lookup edge_order (elements (turned g)) (v, u)) ∙ found-turned g u v

is_there : (g : List (ℕ × ℕ)) (e : ℕ × ℕ) → IsTrue (is_some (lookup edge_order (elements g) e)) ↔ Contains g e
is_there g e = subst (λ edges. IsTrue (is_some (lookup edge_order (elements g) e)) ↔ Contains edges e) (keys-elements g) (has_key edge_total edge_exact (elements g) e (is_some (lookup edge_order (elements g) e)) refl)

reverse_is : (g : List (ℕ × ℕ)) → IsReverse g (reversed g)
reverse_is g u v =
    let same : is_some (lookup edge_order (elements (reversed g)) (v, u)) ≡ is_some (lookup edge_order (elements g) (u, v)) = ap is_some (found-reversed g u v) in
    let there = is_there (reversed g) (v, u) in
    let here = is_there g (u, v) in
    ((λ h. here.0 (sym same ∙ there.1 h)), (λ h. there.0 (same ∙ here.1 h)))

pub is_reverse : (g new : List (ℕ × ℕ)) → new ≡ reversed g → IsReverse g new
is_reverse g new is = subst (IsReverse g) (sym is) (reverse_is g)

-- at the values that the program has
pub reversed_is : (made batch : Sets) (g : List (ℕ × ℕ)) (list lent : List Edge) → pairs_of list ≡ g → lent ≡ list → edges_of made ≡ reversed (pairs_of lent) → batch ≡ made → edges_of batch ≡ reversed g
reversed_is made batch g list lent l n m b = ap edges_of b ∙ m ∙ ap (λ x. reversed (pairs_of x)) n ∙ ap reversed l
