-- A batch that is turned round, sorted stably and deduplicated.
use Rattle.std.proofs.Common.{◌≡◌, List, reverse, refl, sym}
use Rattle.std.specs.declared.cmp.Ordering.{Ordering}
use Rattle.std.specs.Ordering.{is_eq}
use Rattle.std.specs.Cmp.{IsTotalOrder}
use Rattle.std.specs.List.{dedup}
use Rattle.std.specs.List.Sorted.{IsSortedByKey, IsStableByKey}
use Rattle.map_model.specs.Order.{IsExact}
use Rattle.map_model.specs.Operations.{build}
use Rattle.map_model.proofs.Operations.{build-is}
use Rattle.map_model.proofs.Sorted.{IsIncreasing-dedup, lookup-batch}

module _ {K V : Type 0} {order : K → K → Ordering} (total : IsTotalOrder order) (exact : IsExact order) where
  -- it is what its pairs build
  pub batch_of : (pairs sorted : List (K × V)) → IsSortedByKey (λ (e : K × V). e.0) order sorted → IsStableByKey (λ (e : K × V). e.0) order (reverse pairs) sorted → dedup (λ (x y : K × V). is_eq (order x.0 y.0)) sorted ≡ build order pairs
  batch_of pairs sorted up stable =
      let alike = λ (x y : K × V). is_eq (order x.0 y.0) in
      sym (build-is total exact pairs (dedup alike sorted) (IsIncreasing-dedup alike (λ x y. refl) total sorted up) (lookup-batch total exact alike (λ x y. refl) pairs sorted stable))
