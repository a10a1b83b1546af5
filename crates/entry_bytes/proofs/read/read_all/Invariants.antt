use Rattle.entry_bytes.proofs.SoFar.{AreReadSoFar}
use Rattle.entry_bytes.proofs.read.read_all.Given as goal

abbrev pub invariant-loop-index : goal.invariant-loop-index
invariant-loop-index l = AreReadSoFar l.bytes l.count l.after l.last l.least l.index l.entries.items
