-- What the kept fold of a map's values says of their totals and of the least of them.
use Rattle.std.proofs.Common.{◌≡◌, ℕ, ◌-◌, ◌^◌, ◌≤◌, List, [], ◌∷◌, min, Some, refl, ap, ◌∙◌, arith}
use Rattle.map_model.specs.Fold.{fold_of}
use Rattle.aug_monoid.specs.Totals.{totals_base, totals_combine}
use Rattle.map_folds.specs.declared.summary.Summary.{Summary}
use Rattle.map_folds.specs.Summaries.{summary_base, summary_unit, summary_combine}
use Rattle.map_handle.specs.Folds.{least_of, least_or_top, totals_of}

abbrev pub summary_of : List (ℕ × ℕ) → Summary
summary_of m = fold_of (λ _ val. summary_base val) summary_unit summary_combine m

pub summary_totals : (m : List (ℕ × ℕ)) → (summary_of m).totals ≡ totals_of m
summary_totals [] = refl
summary_totals (e ∷ m) = ap (totals_combine (totals_base e.1)) (summary_totals m)

least_fits : (m : List (ℕ × ℕ)) → least_or_top m ≤ 2 ^ 64 - 1
least_fits [] = omega arith
least_fits (e ∷ m) = let rest = least_fits m in omega (arith, rest)

lesser : (val rest : ℕ) → rest ≤ 2 ^ 64 - 1 → min (min val (2 ^ 64 - 1)) rest ≡ min val rest
lesser val rest fits = omega arith

summary_least : (m : List (ℕ × ℕ)) → (summary_of m).least ≡ least_or_top m
summary_least [] = refl
summary_least (e ∷ m) = ap (min (min e.1 (2 ^ 64 - 1))) (summary_least m) ∙ lesser e.1 (least_or_top m) (least_fits m)

pub some_least : (m : List (ℕ × ℕ)) → (m ≡ [] → ⊥) → Some (summary_of m).least ≡ least_of m
some_least [] some = absurd (some refl)
some_least (e ∷ m) some = ap Some (summary_least (e ∷ m))
