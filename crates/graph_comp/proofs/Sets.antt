-- Keys that were put into a set.
use Rattle.std.proofs.Common.{◌≡◌, ◌∙◌, ◌∷◌, [], true, false, cond, List, Some, refl, ap}
use Rattle.std.specs.declared.cmp.Ordering.{Ordering}
use Rattle.std.specs.Cmp.{IsTotalOrder}
use Rattle.std.specs.Map.{keys_of}
use Rattle.std.specs.Ordering.{is_eq}
use Rattle.std.proofs.lemmas.Cmp.{tied_itself}
use Rattle.map_model.specs.Order.{IsExact}
use Rattle.map_model.specs.Entries.{lookup, set}
use Rattle.map_model.specs.Operations.{after, puts}
use Rattle.map_model.proofs.Lookups.{lookup-set}
use Rattle.graph_snap.specs.Edges.{elements}

pub elements-keys : {K : Type 0} (m : List (K × Unit {0})) → elements (keys_of m) ≡ m
elements-keys [] = refl
elements-keys (e ∷ m) = ap (λ l. e ∷ l) (elements-keys m)

module _ {K : Type 0} {order : K → K → Ordering} (total : IsTotalOrder order) (exact : IsExact order) where
  pub just_put : (m : List (K × Unit {0})) (k : K) → lookup order (set order m k tt) k ≡ Some tt
  just_put m k = lookup-set total exact m k tt k ∙ ap (λ o. cond (is_eq o) (Some tt) (lookup order m k)) (tied_itself total k)

  pub stays : (pairs m : List (K × Unit {0})) (k : K) → lookup order m k ≡ Some tt → lookup order (after order m (puts pairs)) k ≡ Some tt
  stays [] m k h = h
  stays (e ∷ pairs) m k h =
      stays pairs (set order m e.0 e.1) k
      (lookup-set total exact m e.0 e.1 k ∙ elim (is_eq (order e.0 k)) as (λ b. cond b (Some e.1) (lookup order m k) ≡ Some tt) [ true ↦ refl | false ↦ h ])
