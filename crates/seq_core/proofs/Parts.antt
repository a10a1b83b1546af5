-- The front, the back and a change of two lists with an item between them.
use Rattle.std.proofs.Common.{◌≡◌, ℕ, suc, ◌+◌, ◌-◌, ◌<◌, List, ◌∷◌, ◌++◌, length, take, drop, set, refl, ap, ◌∙◌, arith}
use Rattle.std.proofs.Math.Seq.{drop-append-add, take-append-add}
use Rattle.std.proofs.lemmas.List.{set-append_right}

pub drop-around : {E : Type 0} (l : List E) (e : E) (r : List E) (n : ℕ) → length l < n → drop n (l ++ e ∷ r) ≡ drop (n - length l - 1) r
drop-around l e r n past =
    let is : n ≡ length l + suc (n - length l - 1) = omega arith in
    ap (λ k. drop k (l ++ e ∷ r)) is ∙ drop-append-add l (e ∷ r) (suc (n - length l - 1))

pub take-around : {E : Type 0} (l : List E) (e : E) (r : List E) (n : ℕ) → length l < n → take n (l ++ e ∷ r) ≡ l ++ e ∷ take (n - length l - 1) r
take-around l e r n past =
    let is : n ≡ length l + suc (n - length l - 1) = omega arith in
    ap (λ k. take k (l ++ e ∷ r)) is ∙ take-append-add l (e ∷ r) (suc (n - length l - 1))

pub set-around : {E : Type 0} (l : List E) (e : E) (r : List E) (i : ℕ) (x : E) → length l < i → set (l ++ e ∷ r) i x ≡ l ++ e ∷ set r (i - length l - 1) x
set-around l e r i x past =
    let is : i - length l ≡ suc (i - length l - 1) = omega arith in
    set-append_right l (e ∷ r) (length l) i x refl (omega arith) ∙ ap (λ n. l ++ set (e ∷ r) n x) is
