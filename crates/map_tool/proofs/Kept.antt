-- The maps of the registers, from what the registers keep.
use Rattle.std.proofs.Common.{◌≡◌, ℕ, zero, suc, ◌<◌, ◌+◌, List, [], ◌∷◌, ◌++◌, length, replicate, refl, sym, ap, ap₂, ◌∙◌, arith}
use Rattle.std.specs.Prelude.{slice_index_or, slice_set}
use Rattle.std.proofs.lemmas.List.{map-append, replicate_more}
use Rattle.map_model.specs.Contents.{Contents}
use Rattle.map_tool.specs.Registers.{maps_of, register, with_register}

pub register_is : (kept : List (Contents ℕ ℕ)) (i : ℕ) (d : Contents ℕ ℕ) → i < length kept → register (maps_of kept) i ≡ (slice_index_or kept i d).entries
register_is [] i d h = absurd (omega arith)
register_is (m ∷ kept) zero d h = refl
register_is (m ∷ kept) (suc i) d h = register_is kept i d (omega arith)

pub stored_is : (kept : List (Contents ℕ ℕ)) (i : ℕ) (m : Contents ℕ ℕ) → maps_of (slice_set kept i m) ≡ with_register (maps_of kept) i m.entries
stored_is [] zero m = refl
stored_is [] (suc i) m = refl
stored_is (x ∷ kept) zero m = refl
stored_is (x ∷ kept) (suc i) m = ap (λ rest. x.entries ∷ rest) (stored_is kept i m)

-- a map that is taken out of a register
pub taken_is : (kept : List (Contents ℕ ℕ)) (i : ℕ) (lent taken : Contents ℕ ℕ) → i < length kept → lent ≡ slice_index_or kept i lent → taken ≡ lent → taken.entries ≡ register (maps_of kept) i
taken_is kept i lent taken h is same = ap (λ (m : Contents ℕ ℕ). m.entries) (same ∙ is) ∙ sym (register_is kept i lent h)

-- one empty map more
pub emptied : (kept : List (Contents ℕ ℕ)) (m : Contents ℕ ℕ) (n : ℕ) → maps_of kept ≡ replicate n [] → m.entries ≡ [] → maps_of (kept ++ m ∷ []) ≡ replicate (n + 1) []
emptied kept m n so_far none =
    map-append (λ (x : Contents ℕ ℕ). x.entries) kept (m ∷ []) ∙ ap₂ (λ x y. x ++ y ∷ []) so_far none ∙ replicate_more n []
