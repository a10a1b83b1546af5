use Rattle.std.proofs.Common.{map, sym, ap, arith, ◌∙◌}
use Rattle.serve_text.specs.Records.{Asked}
use Rattle.serve_text.proofs.Growing.{reads_of-nil}
use Rattle.run_check.proofs.ReadLists.{places_more}
use Rattle.run_check.proofs.reads.read_places.Goals as goal

pub loop-record-init : goal.loop-record-init
loop-record-init g c = c.new-places.ensures.items ∙ sym (ap (map (λ (q : Asked g.row.Q.Denot). q.place)) (reads_of-nil g.row.O.Denot g.row.Q.Denot))

pub loop-record-preserved : goal.loop-record-preserved
loop-record-preserved g c =
    places_more c.args.records.now c.loop-record.record-index c.record-item.result (omega arith) c.record-item.is c.loop-record.places.items c.push_place.new.places.items c.loop-record.invariant c.in_ok-push_place.ensures
