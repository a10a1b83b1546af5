-- A map without the entry at one of its ends.
use Rattle.std.proofs.Common.{◌≡◌, ℕ, zero, suc, ◌-◌, ◌≤◌, List, [], ◌∷◌, ◌++◌, length, take, drop, Some, refl, ap, ◌∙◌, subst, arith}
use Rattle.std.specs.declared.cmp.Ordering.{Ordering}
use Rattle.std.specs.Cmp.{IsTotalOrder}
use Rattle.std.specs.List.{slice_get}
use Rattle.std.proofs.lemmas.Cmp.{tied_itself}
use Rattle.std.proofs.lemmas.List.{append-nil}
use Rattle.map_model.specs.Entries.{IsIncreasing, drop_key}
use Rattle.map_model.specs.Parts.{select}
use Rattle.map_model.proofs.Around.{drop_key-around_equal}
use Rattle.ord_map.specs.Ends.{last, without_first, without_last}

module _ {X : Type 0} where
  around_place : (m : List X) (i : ℕ) (x : X) → slice_get m i ≡ Some x → m ≡ take i m ++ x ∷ drop (suc i) m
  around_place [] i x is = cc
  around_place (y ∷ m) zero x is = cc
  around_place (y ∷ m) (suc i) x is = ap (λ z. y ∷ z) (around_place m i x is)

  none_behind : (m : List X) (i : ℕ) → length m ≤ i → drop i m ≡ []
  none_behind [] zero h = refl
  none_behind [] (suc i) h = refl
  none_behind (x ∷ m) zero h = absurd (omega (arith, h))
  none_behind (x ∷ m) (suc i) h = none_behind m i (omega (arith, h))

module _ {K V : Type 0} {order : K → K → Ordering} (total : IsTotalOrder order) where
  -- a key at a place leaves what is before the place and what is behind it
  dropped : (m : List (K × V)) (i : ℕ) (e : K × V) → IsIncreasing order m → slice_get m i ≡ Some e → drop_key order m e.0 ≡ take i m ++ drop (suc i) m
  dropped m i e s is =
      let whole = around_place m i e is in
      ap (λ x. drop_key order x e.0) whole ∙ drop_key-around_equal total (take i m) e.0 e.1 (drop (suc i) m) e.0 (subst (IsIncreasing order) whole s) (tied_itself total e.0)

  pub first_popped : (m : List (K × V)) (e : K × V) → IsIncreasing order m → select m 0 ≡ Some e → drop_key order m e.0 ≡ without_first m
  first_popped m e s is = dropped m 0 e s is

  pub last_popped : (m : List (K × V)) (e : K × V) → IsIncreasing order m → last m ≡ Some e → drop_key order m e.0 ≡ without_last m
  last_popped m e s is =
      dropped m (length m - 1) e s is
      ∙ ap (λ x. without_last m ++ x) (none_behind m (suc (length m - 1)) (omega arith))
      ∙ append-nil (without_last m)
