-- Counts of entries, combined with saturation.
use Rattle.std.proofs.Common.{◌≡◌, ℕ, ◌+◌, ◌-◌, ◌^◌, ◌<◌, Bool, true, false, cond, List, [], ◌∷◌, length, min, refl, arith}
use Rattle.std.specs.List.{filter}
use Rattle.map_model.specs.Fold.{reduce}
use Rattle.map_model.proofs.Lengths.{length-filter_le}

-- the count of few entries is their number
pub count_is : {K : Type 0} (test : ℕ → Bool) (m : List (K × ℕ)) → length m < 2 ^ 60 → reduce (λ (key : K) (val : ℕ). cond (test val) 1 0) 0 (λ a b. min (a + b) (2 ^ 64 - 1)) m ≡ length (filter (λ e. test e.1) m)
count_is {K} test [] few = refl
count_is {K} test (e ∷ m) few =
    let rest : reduce (λ (key : K) (val : ℕ). cond (test val) 1 0) 0 (λ a b. min (a + b) (2 ^ 64 - 1)) m ≡ length (filter (λ d. test d.1) m) = count_is test m (omega (arith, few)) in
    let short = length-filter_le (λ (d : K × ℕ). test d.1) m in
    rw rest (elim (test e.1) as (λ b. min (cond b 1 0 + length (filter (λ (d : K × ℕ). test d.1) m)) (2 ^ 64 - 1) ≡ length (cond b (e ∷ filter (λ (d : K × ℕ). test d.1) m) (filter (λ (d : K × ℕ). test d.1) m))) [
      | true ↦ omega (arith, short, few)
      | false ↦ omega (arith, short, few)
    ])
