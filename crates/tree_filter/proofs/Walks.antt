-- A filter's walk over the entries of a block, and what it leaves of a whole and of its sides.
use Rattle.std.proofs.Common.{◌≡◌, ℕ, ◌+◌, Bool, true, false, cond, List, [], ◌∷◌, ◌++◌, length, take, Some, refl, sym, ap, ap₂, ◌∙◌, length-append, arith}
use Rattle.std.specs.List.{filter, slice_get}
use Rattle.std.proofs.lemmas.List.{take_more}
use Rattle.std.proofs.lemmas.List.Elements.{filter-append}
use Rattle.std.proofs.lemmas.Option.{slice_get_within, get_or_from_slice_get}
use Rattle.map_model.proofs.Lengths.{length-filter_le}

-- a filter that leaves nothing out
pub filter_whole : {E : Type 0} (p : E → Bool) (m : List E) → length (filter p m) ≡ length m → filter p m ≡ m
filter_whole p [] h = refl
filter_whole p (x ∷ m) h = elim (p x) as (λ b. length (cond b (x ∷ filter p m) (filter p m)) ≡ length (x ∷ m) → cond b (x ∷ filter p m) (filter p m) ≡ x ∷ m) [
  | true ↦ λ same. ap (λ z. x ∷ z) (filter_whole p m (omega (arith, same)))
  | false ↦ λ same. absurd (omega (arith, same, length-filter_le p m))
] h

-- two filtered sides that leave nothing out
pub filter_sides : {E : Type 0} (p : E → Bool) (whole l : List E) (e : E) (r : List E) → whole ≡ l ++ e ∷ r → length (filter p l) + length (filter p r) + 1 ≡ length whole → whole ≡ filter p l ++ e ∷ filter p r
filter_sides p whole l e r is long =
    let size = ap length is ∙ length-append l (e ∷ r) in
    let few = length-filter_le p l in
    let more = length-filter_le p r in
    let front = filter_whole p l (omega (arith, size, few, more, long)) in
    let back = filter_whole p r (omega (arith, size, few, more, long)) in
    is ∙ ap₂ (λ x y. x ++ e ∷ y) (sym front) (sym back)

module _ {E : Type 0} (m : List E) (i : ℕ) (e : E) (is : slice_get m i ≡ Some e) where
  -- the entries before a place that pass a test, and the one there
  pub filter_more : (p : E → Bool) → filter p (take (i + 1) m) ≡ filter p (take i m) ++ cond (p e) (e ∷ []) []
  filter_more p =
      let here = take_more m i e (slice_get_within m i e is) ∙ ap (λ x. take i m ++ x ∷ []) (get_or_from_slice_get m i e e is) in
      ap (filter p) here ∙ filter-append p (take i m) (e ∷ [])
