use Rattle.std.proofs.Common.{◌≡◌, take}
use Rattle.run_check.specs.Verdicts.{places_of}
use Rattle.run_check.proofs.reads.read_places.Given as goal

abbrev pub invariant-loop-record : goal.invariant-loop-record
invariant-loop-record g l = l.places.items ≡ places_of (take l.record-index l.records)
