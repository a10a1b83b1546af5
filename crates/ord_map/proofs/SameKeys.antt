-- Entries with other values at the same keys.
use Rattle.std.proofs.Common.{◌≡◌, List, [], ◌∷◌, map, refl, ap, subst, sym}
use Rattle.std.specs.declared.cmp.Ordering.{Ordering}
use Rattle.std.specs.Map.{keys_of}
use Rattle.std.specs.List.Sorted.{IsStrictlySortedBy}
use Rattle.map_model.specs.Entries.{IsIncreasing}
use Rattle.map_model.proofs.Sorted.{IsIncreasing-from_ordered, ordered_from_IsIncreasing}

module _ {K V W : Type 0} (f : K → V → W) where
  same_keys : (m : List (K × V)) → keys_of (map (λ e. (e.0, f e.0 e.1)) m) ≡ keys_of m
  same_keys [] = refl
  same_keys (e ∷ m) = ap (λ keys. e.0 ∷ keys) (same_keys m)

  pub values_increase : (order : K → K → Ordering) (m : List (K × V)) → IsIncreasing order m → IsIncreasing order (map (λ e. (e.0, f e.0 e.1)) m)
  values_increase order m s = IsIncreasing-from_ordered order (map (λ e. (e.0, f e.0 e.1)) m) (subst (IsStrictlySortedBy order) (sym (same_keys m)) (ordered_from_IsIncreasing order m s))
