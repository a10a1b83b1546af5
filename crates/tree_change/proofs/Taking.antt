-- The fold of entries among which a new one comes to stand, where values combine alike in either order.
use Rattle.std.proofs.Common.{◌≡◌, ◌+◌, ◌<◌, cond, List, ◌∷◌, ◌++◌, length, Some, None, is_some, refl, sym, ap, ◌∙◌, arith}
use Rattle.std.specs.Cmp.{IsTotalOrder}
use Rattle.std.specs.declared.cmp.Ordering.{Ordering}
use Rattle.map_model.specs.Entries.{IsIncreasing, above, below, lookup, set}
use Rattle.map_model.specs.Fold.{IsMonoidOver, fold_of}
use Rattle.map_model.specs.Order.{IsExact}
use Rattle.map_model.proofs.Cuts.{length-around}
use Rattle.map_model.proofs.Folds.{fold-append, fold-around, fold-fits}
use Rattle.map_model.proofs.Lengths.{length-set}
use Rattle.map_model.proofs.Splits.{split_absent}
use Rattle.aug_monoid.specs.Commuting.{IsCommutativeOver}

module _ {K V : Type 0} (order : K → K → Ordering) where
  pub set_some : (m : List (K × V)) (k : K) (v : V) → 0 < length (set order m k v)
  set_some m k v = omega (arith, length-around (below order m k) (k, v) (above order m k))

module _ {K V : Type 0} {order : K → K → Ordering} (total : IsTotalOrder order) (exact : IsExact order) where
  -- a key that makes a map longer is new
  pub new_if_longer : (m : List (K × V)) (k : K) (v : V) → IsIncreasing order m → length m < length (set order m k v) → lookup order m k ≡ None
  new_if_longer m k v rises longer =
      elim (lookup order m k) as (λ o. length (set order m k v) ≡ cond (is_some o) (length m) (length m + 1) → o ≡ None) [
        | None ↦ λ _. refl
        | Some w ↦ λ same. absurd (omega (arith, same, longer))
      ] (length-set total exact m k v rises)

  -- and a new key makes it longer
  pub longer_if_new : (m : List (K × V)) (k : K) (v : V) → IsIncreasing order m → lookup order m k ≡ None → length m < length (set order m k v)
  longer_if_new m k v rises new = rw (length-set total exact m k v rises, new) (omega arith)

module _ {K V X : Type 0} {Fits : X → Type 0} {base : K → V → X} {unit : X} {combine : X → X → X} (monoid : IsMonoidOver Fits unit combine) (base_fits : (k : K) (v : V) → Fits (base k v)) (alike : IsCommutativeOver Fits combine) where
  -- an entry between others may be taken in last
  pub fold_last : (l : List (K × V)) (k : K) (v : V) (r : List (K × V)) → fold_of base unit combine (l ++ (k, v) ∷ r) ≡ combine (fold_of base unit combine (l ++ r)) (base k v)
  fold_last l k v r =
      let front = fold_of base unit combine l in
      let back = fold_of base unit combine r in
      let front_fits = fold-fits monoid base_fits l in
      let back_fits = fold-fits monoid base_fits r in
      fold-around monoid base_fits l k v r
      ∙ monoid.assoc front (base k v) back front_fits (base_fits k v) back_fits
      ∙ ap (combine front) (alike (base k v) back (base_fits k v) back_fits)
      ∙ sym (monoid.assoc front back (base k v) front_fits back_fits (base_fits k v))
      ∙ ap (λ x. combine x (base k v)) (sym (fold-append monoid base_fits l r))

  pub fold_set : {order : K → K → Ordering} → IsTotalOrder order → IsExact order → (m : List (K × V)) (k : K) (v : V) → IsIncreasing order m → lookup order m k ≡ None → fold_of base unit combine (set order m k v) ≡ combine (fold_of base unit combine m) (base k v)
  fold_set {order} total exact m k v rises new =
      fold_last (below order m k) k v (above order m k)
      ∙ ap (λ x. combine (fold_of base unit combine x) (base k v)) (sym (split_absent total exact m k rises new))
