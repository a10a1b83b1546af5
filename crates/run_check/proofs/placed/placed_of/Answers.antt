use Rattle.std.proofs.Common.{arith, sym, ◌∙◌}
use Rattle.run_check.proofs.Placings.{placed_more, placed_of-nil}
use Rattle.run_check.proofs.placed.placed_of.Goals as goal

pub loop-record-init : goal.loop-record-init
loop-record-init g c = c.new-placed.ensures.items ∙ sym (placed_of-nil g.row.O.Denot g.row.Q.Denot)

pub loop-record-preserved : goal.loop-record-preserved
loop-record-preserved g c =
    placed_more c.args.records.now c.loop-record.record-index c.record-item.result c.loop-record.placed.items c.push_placed.new.placed.items (omega arith) c.record-item.is c.loop-record.invariant c.in_ok-push_placed.ensures
