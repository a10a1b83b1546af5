-- The lists of the registers, from what the registers keep.
use Rattle.std.proofs.Common.{◌≡◌, ℕ, zero, suc, ◌+◌, List, [], ◌∷◌, ◌++◌, replicate, refl, ap, ap₂, ◌∙◌}
use Rattle.std.specs.Prelude.{slice_set}
use Rattle.std.proofs.lemmas.List.{map-append, replicate_more}
use Rattle.seq_core.specs.Contents.{Contents}
use Rattle.seq_tool.specs.Registers.{lists_of, with_register}

pub stored_is : (kept : List (Contents ℕ)) (i : ℕ) (s : Contents ℕ) → lists_of (slice_set kept i s) ≡ with_register (lists_of kept) i s.items
stored_is [] zero s = refl
stored_is [] (suc i) s = refl
stored_is (x ∷ kept) zero s = refl
stored_is (x ∷ kept) (suc i) s = ap (λ rest. x.items ∷ rest) (stored_is kept i s)

-- one empty sequence more
pub emptied : (kept : List (Contents ℕ)) (s : Contents ℕ) (n : ℕ) → lists_of kept ≡ replicate n [] → s.items ≡ [] → lists_of (kept ++ s ∷ []) ≡ replicate (n + 1) []
emptied kept s n so_far none =
    map-append (λ (x : Contents ℕ). x.items) kept (s ∷ []) ∙ ap₂ (λ x y. x ++ y ∷ []) so_far none ∙ replicate_more n []
