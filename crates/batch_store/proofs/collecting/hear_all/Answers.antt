use Rattle.std.proofs.Common.{ap, arith}
use Rattle.batch_store.proofs.Heard.{hear_step, lane_at, at_now}
use Rattle.batch_store.specs.Journal.{lanes_of}
use Rattle.batch_store.proofs.collecting.hear_all.Goals as goal

pub loop-at-preserved : goal.loop-at-preserved
loop-at-preserved g c =
    hear_step c.args.intakes.now c.loop-at.intakes c.args.callers.now c.loop-at.callers c.loop-at.at c.hear.new.intake c.index-intakes-at.result c.hear.new.caller c.index-callers-at.result
    c.requires c.loop-at.invariant (omega arith) c.hear.ensures.intake c.hear.ensures.caller c.hear.ensures.left

pub hear-requires : goal.hear-requires
hear-requires g c =
    lane_at c.loop-at.intakes c.loop-at.callers (at_now c.args.intakes.now c.loop-at.intakes c.args.callers.now c.loop-at.callers (ap lanes_of c.loop-at.invariant.0) c.loop-at.invariant.1 c.requires) c.loop-at.at c.index-intakes-at.result c.index-callers-at.result (omega arith)
