use Rattle.std.proofs.Common.{length, take, ap, sym, arith, ◌∙◌}
use Rattle.serve_text.proofs.Growing.{reads_of-nil}
use Rattle.run_check.specs.Reading.{asked_in, numbers_in, numbers_told}
use Rattle.run_check.proofs.ReadLists.{enough, asked_more}
use Rattle.run_check.proofs.reads.readings.Goals as goal

pub loop-record-init : goal.loop-record-init
loop-record-init g c = record {
  asked = ap asked_in c.in_ok-reads.ensures.items ∙ sym (reads_of-nil g.row.O.Denot g.row.Q.Denot);
  numbers = ap numbers_in c.in_ok-reads.ensures.items ∙ sym (ap (λ l. take (length l) (numbers_told c.args.replies.now)) c.in_ok-reads.ensures.items);
}

pub loop-record-preserved : goal.loop-record-preserved
loop-record-preserved g c = record {
  asked = asked_more c.args.records.now c.loop-record.record-index c.record-item.result (omega arith) c.record-item.is c.loop-record.reads.items c.push_reading.new.reads.items c.loop-record.invariant.asked c.in_ok-push_reading.ensures.asked;
  numbers = c.in_ok-push_reading.ensures.numbers c.loop-record.invariant.numbers;
}

pub push_reading-requires : goal.push_reading-requires
push_reading-requires g c =
    enough c.args.records.now c.loop-record.record-index c.record-item.result (omega arith) c.record-item.is (length c.args.replies.now) c.loop-record.reads.items c.requires c.loop-record.invariant.asked
