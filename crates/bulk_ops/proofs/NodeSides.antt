-- A map combined with few entries, which are cut at a node's key.
use Rattle.std.proofs.Common.{◌≡◌, List, ◌∷◌, ◌++◌, Option, Some, sym, ap, ◌∙◌, subst}
use Rattle.std.specs.List.{cons_option}
use Rattle.std.specs.declared.cmp.Ordering.{Ordering}
use Rattle.map_model.specs.Entries.{IsIncreasing, lookup, below, above}
use Rattle.bulk_ops.specs.Combination.{IsCombination, entry_at}

module _ {K V : Type 0} {order : K → K → Ordering} {combined : List (K × V) → List (K × V) → List (K × V)} {kept : Option V → Option V → Option V} {first second : _} (laws : IsCombination order combined kept first second) where
  pub node_combined : (tree few front back l r : List (K × V)) (k : K) (v : V) (middle : Option (K × V)) → tree ≡ l ++ (k, v) ∷ r → IsIncreasing order tree → IsIncreasing order few
      → middle ≡ entry_at k (kept (Some v) (lookup order few k)) → front ≡ combined l (below order few k) → back ≡ combined r (above order few k) → front ++ cons_option middle back ≡ combined tree few
  node_combined tree few front back l r k v middle is s t m front_is back_is =
      let split : combined tree few ≡ _ = ap (λ x. combined x few) is ∙ laws.split_first l k v r few (subst (IsIncreasing order) is s) t in
      sym (rw (front_is, back_is, m) split)

  pub node_rises : (tree few front back : List (K × V)) (middle : Option (K × V)) → IsIncreasing order tree → IsIncreasing order few → front ++ cons_option middle back ≡ combined tree few → IsIncreasing order (front ++ cons_option middle back)
  node_rises tree few front back middle s t is = subst (IsIncreasing order) (sym is) (laws.increases tree few s t)
