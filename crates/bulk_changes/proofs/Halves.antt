-- A map and a slice that are cut at an entry of the map.
use Rattle.std.proofs.Common.{◌≡◌, ◌<◌, List, ◌∷◌, ◌++◌, length, sym, ap, ap₂, subst, ◌∙◌, arith}
use Rattle.std.specs.Borrow.{Bor}
use Rattle.std.specs.Option.{option_map_or}
use Rattle.std.specs.declared.cmp.Ordering.{Ordering}
use Rattle.std.specs.Cmp.{IsTotalOrder}
use Rattle.map_model.specs.Contents.{Contents}
use Rattle.map_model.specs.Order.{IsExact}
use Rattle.map_model.specs.Entries.{IsIncreasing, lookup, below, above}
use Rattle.map_model.specs.SetOperations.{union}
use Rattle.map_model.proofs.Cuts.{length-around}
use Rattle.map_model.proofs.Unions.{IsIncreasing-union, union-split_first}
use Rattle.bulk_changes.specs.Parts.{IsPutTogether}

module _ {K V : Type 0} {order : K → K → Ordering} (total : IsTotalOrder order) (exact : IsExact order) (f : V → V → V) where
  pub put_together : (part front back : Contents K V × Bor (List (K × V))) (k : K) (v new : V) → part.0.entries ≡ front.0.entries ++ (k, v) ∷ back.0.entries → IsIncreasing order part.0.entries → IsIncreasing order part.1.now
      → front.1.now ≡ below order part.1.now k → back.1.now ≡ above order part.1.now k → new ≡ option_map_or (λ w. f v w) (lookup order part.1.now k) v → IsPutTogether order f part front (k, new) back
  put_together part front back k v new is s t low high new_is =
      let l = front.0.entries in
      let r = back.0.entries in
      let b = part.1.now in
      let whole : union order f part.0.entries b ≡ union order f l front.1.now ++ (k, new) ∷ union order f r back.1.now =
      ap (λ x. union order f x b) is
      ∙ union-split_first total exact f l k v r b (subst (IsIncreasing order) is s) t
      ∙ ap (λ w. union order f l (below order b k) ++ (k, w) ∷ union order f r (above order b k)) (sym new_is)
      ∙ ap₂ (λ x y. union order f l x ++ (k, new) ∷ union order f r y) (sym low) (sym high) in
      record {
        whole = whole;
        increasing = subst (IsIncreasing order) whole (IsIncreasing-union total f part.0.entries b s);
      }

-- the sides are smaller than the whole
pub smaller : {E : Type 0} (whole l : List E) (e : E) (r : List E) → whole ≡ l ++ e ∷ r → (length l < length whole) × (length r < length whole)
smaller whole l e r is =
    let n = ap length is ∙ length-around l e r in
    (omega (arith, n), omega (arith, n))
