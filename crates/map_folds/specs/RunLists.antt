-- The runs of `true` in a list, and that the fold of entries has them.
use Rattle.std.specs.Prelude.{◌≡◌, ℕ, ◌+◌, ◌≤◌, max, Bool, true, false, cond, List, [], ◌∷◌}
use Rattle.std.specs.Map.{values_of}
use Rattle.std.proofs.Common.{arith}
use Rattle.map_model.specs.Fold.{fold_of}
use Rattle.map_folds.specs.declared.longest_run.Runs.{Runs}
use Rattle.map_folds.specs.Sums.{capped}
use Rattle.map_folds.specs.Runs.{joined, no_values, one_value}

-- the length of the run that a list begins with
abbrev pub front_run : List Bool → ℕ
front_run [] = 0
front_run (b ∷ bs) = cond b (1 + front_run bs) 0

-- the length of the longest run
abbrev pub longest_run : List Bool → ℕ
longest_run [] = 0
longest_run (b ∷ bs) = max (front_run (b ∷ bs)) (longest_run bs)

front_no_longer : (bs : List Bool) → front_run bs ≤ longest_run bs
front_no_longer [] = omega arith
front_no_longer (b ∷ bs) = omega arith

-- the runs of a list are told
abbrev pub TellsRuns : Runs → List Bool → Type 0
TellsRuns r bs = (r.front ≡ capped (front_run bs)) × (r.longest ≡ capped (longest_run bs))

one_more : (b : Bool) (r : Runs) (bs : List Bool) → TellsRuns r bs → TellsRuns (joined (one_value b) r) (b ∷ bs)
one_more true r bs (front, longest) = (omega (arith, front), omega (arith, front, longest))
one_more false r bs (front, longest) = (omega arith, omega (arith, front, longest, front_no_longer bs))

module _ {K : Type 0} where
  -- the fold of entries
  abbrev pub runs_of : List (K × Bool) → Runs
  runs_of m = fold_of (λ _ val. one_value val) no_values joined m

  pub tells_runs : (m : List (K × Bool)) → TellsRuns (runs_of m) (values_of m)
  tells_runs [] = (omega arith, omega arith)
  tells_runs (e ∷ m) = one_more e.1 (runs_of m) (values_of m) (tells_runs m)
