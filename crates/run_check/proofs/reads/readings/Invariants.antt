use Rattle.std.proofs.Common.{◌≡◌, take}
use Rattle.serve_text.specs.Records.{reads_of}
use Rattle.run_check.specs.Reading.{HaveNumbers, asked_in, numbers_told}
use Rattle.run_check.proofs.reads.readings.Given as goal

abbrev pub invariant-loop-record : goal.invariant-loop-record
invariant-loop-record g l = record { asked : asked_in l.reads.items ≡ reads_of (take l.record-index l.records); numbers : HaveNumbers l.reads.items (numbers_told l.replies) }
