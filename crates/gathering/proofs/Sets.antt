-- The sets of lists put together.
use Rattle.std.proofs.Common.{◌≡◌, ◌∙◌, ◌++◌, [], List, sym, ap}
use Rattle.std.specs.declared.cmp.Ordering.{Ordering}
use Rattle.std.specs.Cmp.{IsTotalOrder}
use Rattle.std.specs.List.{flat_map}
use Rattle.std.proofs.lemmas.Grind.{flat_map-append}
use Rattle.std.proofs.lemmas.List.{map-append}
use Rattle.map_model.specs.Order.{IsExact}
use Rattle.map_model.specs.Operations.{Operation, after, build, puts}
use Rattle.map_model.specs.SetOperations.{union}
use Rattle.map_model.proofs.Operations.{IsIncreasing-build, after-append, union-build}

module _ {K : Type 0} {order : K → K → Ordering} (total : IsTotalOrder order) (exact : IsExact order) where
  -- the set of two lists
  build-append : (a b : List (K × Unit {0})) → build order (a ++ b) ≡ union order (λ v w. w) (build order a) (build order b)
  build-append a b =
      ap (after order []) (map-append (λ (p : K × Unit {0}). let o : Operation K (Unit {0}) = Operation.put p.0 p.1 in o) a b)
      ∙ after-append order (puts a) (puts b) []
      ∙ sym (union-build total exact (build order a) b (IsIncreasing-build total a))

  -- at the values that the program has
  pub halves_united : {T : Type 0} (given : T → List (K × Unit {0})) (part front back : List T) (left right out : List (K × Unit {0})) → part ≡ front ++ back → left ≡ build order (flat_map given front) → right ≡ build order (flat_map given back) → out ≡ union order (λ v w. w) left right → out ≡ build order (flat_map given part)
  halves_united given part front back left right out is l r u =
      u
      ∙ ap (λ m. union order (λ v w. w) m right) l
      ∙ ap (union order (λ v w. w) (build order (flat_map given front))) r
      ∙ sym (build-append (flat_map given front) (flat_map given back))
      ∙ ap (build order) (sym (flat_map-append given front back) ∙ ap (flat_map given) (sym is))
