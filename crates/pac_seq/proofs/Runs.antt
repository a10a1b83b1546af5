-- Runs of items around an item between two lists.
use Rattle.std.proofs.Common.{◌≡◌, ℕ, ◌+◌, ◌-◌, ◌<◌, ◌≤◌, min, List, [], ◌∷◌, ◌++◌, length, take, drop, sym, ap, ap₂, ◌∙◌, inl, inr, arith, length-drop}
use Rattle.std.proofs.lemmas.Bool.{cases_lt}
use Rattle.std.proofs.lemmas.List.{drop-append-le, drop_all, take_all, take_min}
use Rattle.seq_core.proofs.Parts.{take-around}

-- a run that has the item
pub run-around : {E : Type 0} (l : List E) (e : E) (r : List E) (from count : ℕ) → from ≤ length l → length l < from + count
    → take count (drop from (l ++ e ∷ r)) ≡ take (length l - from) (drop from l) ++ e ∷ take (from + count - length l - 1) r
run-around l e r from count near far =
    let left : length (drop from l) ≡ length l - from = length-drop from l in
    let all : take (length l - from) (drop from l) ≡ drop from l = take_all (length l - from) (drop from l) (omega (arith, left)) in
    let rest : count - length (drop from l) - 1 ≡ from + count - length l - 1 = omega (arith, left) in
    ap (take count) (drop-append-le from l (e ∷ r) near)
    ∙ take-around (drop from l) e r count (omega (arith, left))
    ∙ ap₂ (λ x n. x ++ e ∷ take n r) (sym all) rest

-- a run that is cut to what there is
pub run-within : {E : Type 0} (es : List E) (from count : ℕ) → take (min count (length es - min from (length es))) (drop (min from (length es)) es) ≡ take count (drop from es)
run-within es from count =
    elim (cases_lt from (length es)) [
      | inl inside ↦
          let is : min from (length es) ≡ from = omega arith in
          let left : length es - from ≡ length (drop from es) = sym (length-drop from es) in
          rw (is, left) (take_min count (drop from es))
      | inr past ↦
          let is : min from (length es) ≡ length es = omega arith in
          let none : length es - length es ≡ 0 = omega arith in
          let no_count : min count 0 ≡ 0 = omega arith in
          rw (is, none, no_count, drop_all from es past) (sym (take_all count [] (omega arith)))
    ]
