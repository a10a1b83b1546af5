use Rattle.std.proofs.Common.{◌≡◌, ℕ, ◌+◌, ◌<◌, ◌≤◌, false, length, take}
use Rattle.seq_core.specs.Sums.{sum_of}
use Rattle.pac_seq.specs.Passing.{passes_behind}
use Rattle.pac_seq.proofs.finding.first_in_block.Given as goal

abbrev pub invariant-loop-at : goal.invariant-loop-at
invariant-loop-at g l =
    let fold = g.F.Fold in
    let passes = g.T.SumTest.admits l.test in
    record {
      within : l.at ≤ length l.items;
      sum_is : l.sum ≡ fold.combined l.fn.before (sum_of fold.image_of fold.unit_of fold.combined (take l.at l.items));
      none : (i : ℕ) → i < l.at → passes_behind fold.image_of fold.unit_of fold.combined passes l.fn.before l.items i ≡ false;
      cost : l.steps ≤ l.initial.steps + l.at;
    }
