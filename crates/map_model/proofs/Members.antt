-- A key is found exactly where it is among the keys.
use Rattle.std.proofs.Common.{◌≡◌, ℕ, zero, suc, ◌<◌, ◌↔◌, Bool, true, false, cond, IsTrue, List, [], ◌∷◌, Some, Contains, get_or, length, is_some, refl, ap, subst, sym, ◌∙◌, arith}
use Rattle.std.specs.Cmp.{IsTotalOrder}
use Rattle.std.specs.Map.{keys_of}
use Rattle.std.specs.Ordering.{is_eq}
use Rattle.std.specs.declared.cmp.Ordering.{Ordering}
use Rattle.std.specs.declared.cmp.Ordering.TheVariants.{Less, Equal, Greater}
use Rattle.std.proofs.lemmas.Cmp.{tied_itself}
use Rattle.map_model.specs.Entries.{lookup}
use Rattle.map_model.specs.Order.{IsExact}

module _ {K V : Type 0} {order : K → K → Ordering} (total : IsTotalOrder order) where
  found_at : (m : List (K × V)) (q : K) (at : ℕ) → at < length (keys_of m) → get_or (keys_of m) at q ≡ q → is_some (lookup order m q) ≡ true
  found_at [] q at h s = absurd (omega arith)
  found_at (e ∷ m) q zero h s =
      let same : order e.0 q ≡ Equal = subst (λ (k : K). order e.0 k ≡ Equal) s (tied_itself total e.0) in
      ap (λ o. is_some (cond (is_eq o) (Some e.1) (lookup order m q))) same
  found_at (e ∷ m) q (suc at) h s =
      let below : at < length (keys_of m) = omega arith in
      elim (is_eq (order e.0 q)) as (λ b. is_some (cond b (Some e.1) (lookup order m q)) ≡ true) [
        | true ↦ refl
        | false ↦ found_at m q at below s
      ]

module _ {K V : Type 0} {order : K → K → Ordering} (exact : IsExact order) where
  by_order : (e : K × V) (m : List (K × V)) (q : K) (o : Ordering) → order e.0 q ≡ o → is_some (cond (is_eq o) (Some e.1) (lookup order m q)) ≡ true
      → (is_some (lookup order m q) ≡ true → Contains (keys_of m) q) → Contains (e.0 ∷ keys_of m) q
  by_order e m q Equal is found later = (0, omega arith, exact e.0 q is)
  by_order e m q Less is found later = let there : Contains (keys_of m) q = later found in (suc there.0, omega (arith, there.1), there.2)
  by_order e m q Greater is found later = let there : Contains (keys_of m) q = later found in (suc there.0, omega (arith, there.1), there.2)

  at_found : (m : List (K × V)) (q : K) → is_some (lookup order m q) ≡ true → Contains (keys_of m) q
  at_found [] q h = cc
  at_found (e ∷ m) q h = by_order e m q (order e.0 q) refl h (λ found. at_found m q found)

-- a map has a key exactly where something is found at it
pub has_key : {K V : Type 0} {order : K → K → Ordering} → IsTotalOrder order → IsExact order → (m : List (K × V)) (q : K) (answer : Bool) → answer ≡ is_some (lookup order m q) → IsTrue answer ↔ Contains (keys_of m) q
has_key total exact m q answer is = (λ h. at_found exact m q (sym is ∙ h), λ there. is ∙ found_at total m q there.0 there.1 there.2)
