-- How many entries have keys in a range.
use Rattle.std.proofs.Common.{◌≡◌, ℕ, ◌+◌, ◌≤◌, ◌<◌, true, false, cond, ◌&&◌, List, [], ◌∷◌, length, refl, ap, sym, arith}
use Rattle.std.specs.declared.cmp.Ordering.{Ordering}
use Rattle.std.specs.declared.cmp.Ordering.TheVariants.{Less, Equal, Greater}
use Rattle.std.specs.Ordering.{is_gt, is_lt, is_le, is_ge, nat_cmp}
use Rattle.std.proofs.lemmas.Bool.Decides.{nat_tests}
use Rattle.std.proofs.lemmas.Cmp.{nat_cmp_total, upto}
use Rattle.map_model.specs.Entries.{below}
use Rattle.map_model.specs.Parts.{left_of, rank, slice}
use Rattle.map_model.proofs.Ranges.{slice-none}

le_from_not_gt : (o : Ordering) → is_gt o ≡ false → is_le o ≡ true
le_from_not_gt Less h = refl
le_from_not_gt Equal h = refl
le_from_not_gt Greater h = cc

ordered : (lo hi : ℕ) → lo ≤ hi → is_gt (nat_cmp lo hi) ≡ false
ordered lo hi h = grind (arith, nat_tests)

past : (lo hi : ℕ) → hi < lo → nat_cmp lo hi ≡ Greater
past lo hi h = grind (arith, nat_tests)

-- the keys at most hi are those below lo, and those from lo on
pub counted_between : (m : List (ℕ × ℕ)) (lo hi : ℕ) → lo ≤ hi → length (left_of nat_cmp m hi) ≡ rank nat_cmp m lo + length (slice nat_cmp m lo hi)
counted_between [] lo hi h = refl
counted_between (e ∷ m) lo hi h =
    let rest = counted_between m lo hi h in
    let within : nat_cmp e.0 lo ≡ Less → is_le (nat_cmp e.0 hi) ≡ true = λ less. le_from_not_gt (nat_cmp e.0 hi) (upto nat_cmp_total e.0 lo hi (ap is_gt less) (ordered lo hi h)) in
    elim (nat_cmp e.0 lo) as (λ o. nat_cmp e.0 lo ≡ o → length (cond (is_le (nat_cmp e.0 hi)) (e ∷ left_of nat_cmp m hi) (left_of nat_cmp m hi)) ≡ length (cond (is_lt o) (e ∷ below nat_cmp m lo) (below nat_cmp m lo)) + length (cond (is_ge o && is_le (nat_cmp e.0 hi)) (e ∷ slice nat_cmp m lo hi) (slice nat_cmp m lo hi))) [
      | Less ↦ λ is. rw (within is) (omega (arith, rest))
      | Equal ↦ λ _. elim (is_le (nat_cmp e.0 hi)) as (λ b. length (cond b (e ∷ left_of nat_cmp m hi) (left_of nat_cmp m hi)) ≡ length (below nat_cmp m lo) + length (cond b (e ∷ slice nat_cmp m lo hi) (slice nat_cmp m lo hi))) [ true ↦ omega (arith, rest) | false ↦ rest ]
      | Greater ↦ λ _. elim (is_le (nat_cmp e.0 hi)) as (λ b. length (cond b (e ∷ left_of nat_cmp m hi) (left_of nat_cmp m hi)) ≡ length (below nat_cmp m lo) + length (cond b (e ∷ slice nat_cmp m lo hi) (slice nat_cmp m lo hi))) [ true ↦ omega (arith, rest) | false ↦ rest ]
    ] refl

pub counted_none : (m : List (ℕ × ℕ)) (lo hi : ℕ) → hi < lo → 0 ≡ length (slice nat_cmp m lo hi)
counted_none m lo hi h = sym (ap length (slice-none nat_cmp_total m lo hi (past lo hi h)))
