-- A way through a tree.
use Rattle.std.specs.Prelude.{◌≡◌, ◌<◌, ◌≤◌, List, [], ◌∷◌, ◌++◌, length, drop, slice_range, Option, MatchOption}
use Rattle.std.proofs.Common.{Bor}
use Rattle.tree_walk.specs.Aheads.{GoesOn}
use Rattle.tree_walk.specs.declared.lending.Way.{Way}

-- the entry of a key and a value that are lent
abbrev pub entry_lent : {K V : Type 0} → Bor K × Bor V → K × V
entry_lent lent = (lent.0.now, lent.1.now)

module _ {M K V X A L : Type 0} where
  -- the entries that are left: those of the run, and those after it up to the end
  abbrev pub left_on : Way M K V X A L → List (K × V)
  left_on way = way.run.entries.now ++ slice_range way.tree.now.entries way.after way.end

  -- the end is within the tree, and before it the run is followed by what is known to follow
  abbrev pub IsWay : Way M K V X A L → Type 0
  IsWay way = (way.end ≤ length way.tree.now.entries) × (way.after < way.end → GoesOn (drop way.after way.tree.now.entries) [] way.run.ahead)

  -- the first of the run is taken; from a run without entries nothing is
  abbrev pub TakesFirst : Way M K V X A L → Option (Bor K × Bor V) → Way M K V X A L → Type 0
  TakesFirst old item new = MatchOption item ((old.run.entries.now ≡ []) × (new ≡ old)) (λ x. left_on old ≡ entry_lent x ∷ left_on new)
