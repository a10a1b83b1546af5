use Rattle.std.proofs.Common.{◌<◌, arith, length}
use Rattle.inverted_index.specs.Batches.{all_knowing, marked}
use Rattle.inverted_index.proofs.Steps.{known_end, known_more, marks_end, marks_more}
use Rattle.inverted_index.proofs.marking.mark_new.Goals as goal

pub loop-doc-preserved : goal.loop-doc-preserved
loop-doc-preserved g c =
    let low : c.loop-doc.doc-index < length c.args.docs.now = omega arith in
    let is = c.in_ok-is_new.ensures in
    record {
      marks = marks_more (marked c.args.known.now.entries c.args.docs.now) c.loop-doc.list.items c.push.new.self.items c.loop-doc.known.entries c.put_new.new.known.entries c.args.docs.now c.loop-doc.doc-index _ c.in_ok-is_new.is_new low c.loop-doc.invariant.marks is.after is.answer c.in_ok-push.ensures.items;
      after = known_more (all_knowing c.args.known.now.entries c.args.docs.now) c.loop-doc.known.entries c.put_new.new.known.entries c.args.docs.now c.loop-doc.doc-index _ low c.loop-doc.invariant.after is.after;
    }

pub returns-clause-marks : goal.returns-clause-marks
returns-clause-marks g c = marks_end (marked c.args.known.now.entries c.args.docs.now) c.loop-doc.list.items c.loop-doc.known.entries c.args.docs.now c.loop-doc.doc-index (omega arith) c.loop-doc.invariant.marks

pub returns-clause-after : goal.returns-clause-after
returns-clause-after g c = known_end (all_knowing c.args.known.now.entries c.args.docs.now) c.loop-doc.known.entries c.args.docs.now c.loop-doc.doc-index (omega arith) c.loop-doc.invariant.after
