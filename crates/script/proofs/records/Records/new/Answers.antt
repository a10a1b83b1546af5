use Rattle.std.proofs.Common.{refl}
use Rattle.script.specs.Records.{records_of}
use Rattle.script.specs.Reading.{records_after}
use Rattle.script.proofs.records.Records.new.Goals as goal

pub returns : goal.returns
unfolding records_of records_after
returns c =
    let made = c.from_reader-reader.ensures in
    rw (made.state, made.source) refl
