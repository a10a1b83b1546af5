use Rattle.std.proofs.Common.{arith}
use Rattle.serve_callers.proofs.Woven.{at_end}
use Rattle.serve_callers.proofs.weaving.weave.Goals as goal

pub loop-record-preserved : goal.loop-record-preserved
loop-record-preserved g c =
    c.in_ok-weave_record.ensures.on c.loop-record.record-index c.args.records.now c.args.lines.now c.args.text.now.items (omega arith) c.record-item.is c.loop-record.invariant

pub returns : goal.returns
returns g c = at_end c.args.records.now c.loop-record.record-index c.args.lines.now c.loop-record.lines c.args.text.now.items c.loop-record.text.items (omega arith) c.loop-record.invariant
