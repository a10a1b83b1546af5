use Rattle.std.proofs.Common.{arith}
use Rattle.aug_monoid.specs.declared.pair64.Pair64.{Pair64}
use Rattle.interval_handle.proofs.Writing.{one_more}
use Rattle.interval_handle.proofs.arrays.write_ends.Goals as goal

pub loop-at-preserved : goal.loop-at-preserved
loop-at-preserved c =
    let none : Pair64 = record { first = 0; second = 0 } in
    record {
      lefts = one_more (λ (i : Pair64). i.first) c.args.intervals.now c.loop-at.lefts c.args.lefts.now c.loop-at.at none (omega arith) (omega arith) c.loop-at.invariant.lefts;
      rights = one_more (λ (i : Pair64). i.second) c.args.intervals.now c.loop-at.rights c.args.rights.now c.loop-at.at none (omega arith) (omega arith) c.loop-at.invariant.rights;
    }
