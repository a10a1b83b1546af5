use Rattle.entry_bytes.proofs.Encodings.{no_fault, one_map}
use Rattle.entry_bytes.proofs.laws.encodings_differ.Goals as goal

pub returns-clause-one_map : goal.returns-clause-one_map
returns-clause-one_map c = one_map

pub returns-clause-no_fault : goal.returns-clause-no_fault
returns-clause-no_fault c = no_fault
