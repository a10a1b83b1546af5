use Rattle.std.proofs.Common.{◌≡◌, ◌+◌, ◌*◌, ◌≤◌, false, length}
use Rattle.pac_seq.proofs.Carried.{Carries}
use Rattle.pac_seq.proofs.finding.first_in.Given as goal

abbrev pub invariant-down : goal.invariant-down
invariant-down g l =
    let fold = g.F.Fold in
    let passes = g.T.SumTest.admits l.test in
    record {
      fits : fold.Fits l.sum;
      not_yet : passes l.sum ≡ false;
      within : l.place + length l.part.items ≤ length l.tree.items;
      carries : Carries fold.image_of fold.unit_of fold.combined passes l.sum l.part.items l.place l.fn.before l.tree.items;
      cost : l.steps + (2 * l.part.height + 2 * g.S.BlockSize.SIZE) ≤ l.initial.steps + (2 * l.tree.height + 2 * g.S.BlockSize.SIZE);
    }

abbrev pub decreases-down : goal.decreases-down
decreases-down g l = length l.part.items
