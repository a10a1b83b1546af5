use Rattle.std.proofs.Common.{◌≡◌, ◌+◌, ◌*◌, drop}
use Rattle.csv.specs.Records.{fields_of}
use Rattle.script.specs.Fields.{pairs_of}
use Rattle.script.proofs.CommandFacts.{with_front}
use Rattle.script.proofs.lists.pairs_from.Given as goal

abbrev pub invariant-loop-i : goal.invariant-loop-i
invariant-loop-i l = pairs_of (drop l.start (fields_of l.row)) ≡ with_front l.pairs.items (pairs_of (drop (2 * l.i + l.start) (fields_of l.row)))
