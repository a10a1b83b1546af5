-- What a part of a list begins with.
use Rattle.std.proofs.Common.{◌≡◌, ℕ, ◌+◌, ◌-◌, ◌<◌, ◌≤◌, List, [], ◌∷◌, ◌++◌, length, drop, take, sym, ap, ap₂, ◌∙◌, arith}
use Rattle.std.proofs.Common.{Bor, Option, Some, None}
use Rattle.std.specs.List.{slice_range}
use Rattle.std.specs.Iterator.{YieldsFirstBy}
use Rattle.std.proofs.Math.Seq.{take-add}
use Rattle.std.proofs.lemmas.List.{drop-drop, drop_all, drop-append-le, take-append-le}
use Rattle.tree_walk.specs.Ways.{entry_lent, left_on, TakesFirst}
use Rattle.tree_walk.specs.declared.lending.Way.{Way}

module _ {E : Type 0} (whole run rest : List E) (at : ℕ) (is : drop at whole ≡ run ++ rest) where
  -- a run with which a list goes on from a place, or a part of it, and what comes behind that
  pub run_part : (end m : ℕ) → m ≤ length run → at + m ≤ end → take m run ++ slice_range whole (at + m) end ≡ slice_range whole at end
  run_part end m short within =
      let left = drop at whole in
      let sum : end - at ≡ m + (end - (at + m)) = omega (arith, within) in
      let near : take m left ≡ take m run = ap (take m) is ∙ take-append-le m run rest short in
      let far : take (end - (at + m)) (drop m left) ≡ slice_range whole (at + m) end = ap (take (end - (at + m))) (drop-drop m at whole ∙ ap (λ n. drop n whole) (omega arith)) in
      sym (ap (λ n. take n left) sum ∙ take-add m (end - (at + m)) left ∙ ap₂ (λ x y. x ++ y) near far)

  -- what comes behind the run
  pub behind_run : (m : ℕ) → m ≡ length run → drop (at + m) whole ≡ rest
  behind_run m all =
      let on : drop m (drop at whole) ≡ drop (at + m) whole = drop-drop m at whole ∙ ap (λ n. drop n whole) (omega arith) in
      sym on ∙ ap (drop m) is ∙ drop-append-le m run rest (omega (arith, all)) ∙ ap (λ l. l ++ rest) (drop_all m run (omega (arith, all)))

-- the first of a run that is not without entries is the first of what is left
pub first_of_run : {M K V X A L : Type 0} (old mid new : Way M K V X A L) (item : Option (Bor K × Bor V)) → left_on old ≡ left_on mid → 0 < length mid.run.entries.now → TakesFirst mid item new → YieldsFirstBy entry_lent left_on old item new
first_of_run old mid new None same some takes = absurd (omega (arith, some, ap length takes.0))
first_of_run old mid new (Some x) same some takes = same ∙ takes
