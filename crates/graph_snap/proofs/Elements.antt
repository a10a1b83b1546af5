-- Sets of one element.
use Rattle.std.proofs.Common.{◌≡◌, ◌∙◌, ◌∷◌, [], ℕ, List, Option, Some, length, slice_get, ap, sym, arith}
use Rattle.std.proofs.lemmas.Option.{same_Some}
use Rattle.graph_snap.specs.Merging.{IsOnlyElement, merged, with_element}

abbrev Ends : Type 0
Ends = List (ℕ × Unit {0})

pub only_of_one : (ns : Ends) (n : ℕ) (found : Option (ℕ × Unit {0})) (e : ℕ × Unit {0}) → n ≡ length ns → n ≡ 1 → found ≡ slice_get ns 0 → found ≡ Some e → IsOnlyElement ns e.0
only_of_one [] n found e m one f is = absurd (let none : ⊥ = omega (arith, m, one) in none)
only_of_one (x ∷ []) n found e m one f is = ap (λ (y : ℕ × Unit {0}). y ∷ []) (same_Some x e (sym f ∙ is))
only_of_one (x ∷ y ∷ ns) n found e m one f is = absurd (let none : ⊥ = omega (arith, m, one) in none)

-- a set of one element is put
pub put_is_merged : (a b more : Ends) (v : ℕ) → IsOnlyElement b v → more ≡ with_element a v → more ≡ merged a b
put_is_merged a b more v is m = m ∙ sym (ap (merged a) is)
