-- What stands behind a place that may be past the end.
use Rattle.std.proofs.Common.{◌≡◌, ℕ, ◌+◌, ◌-◌, ◌^◌, ◌<◌, min, List, length, drop, ap, sym, ◌∙◌, inl, inr, arith}
use Rattle.std.proofs.lemmas.Bool.{cases_lt}
use Rattle.std.proofs.lemmas.List.{drop_all}

-- a place that is brought into 64 bits
pub drop_past : {E : Type 0} (es : List E) (at n : ℕ) → n ≡ min (at + 1) (2 ^ 64 - 1) → length es < 2 ^ 60 → drop n es ≡ drop (at + 1) es
drop_past es at n is few =
    elim (cases_lt at (2 ^ 64 - 1)) [
      | inl inside ↦ (let same : n ≡ at + 1 = omega (arith, is, inside) in ap (λ k. drop k es) same)
      | inr past ↦ drop_all n es (omega (arith, is, past, few)) ∙ sym (drop_all (at + 1) es (omega (arith, past, few)))
    ]
